use Rattle.std.proofs.Common.{◌≡◌, drop}
use Rattle.std.specs.List.{list_any}
use Rattle.ssi_conflict.proofs.tracker.any_pivots_with.Given as goal
use Rattle.ssi_conflict.specs.Machinery.Tables.{row_at, pivots}

abbrev pub invariant-loop-reader : goal.invariant-loop-reader
invariant-loop-reader l =
    let test = pivots (row_at l.table) l.writer.txn l.writer.snapshot l.first_out in list_any test l.readers ≡
    list_any test (drop l.reader-index l.readers)
