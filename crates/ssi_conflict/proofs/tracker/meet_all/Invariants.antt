use Rattle.std.proofs.Common.{◌≡◌, ℕ, take, option_map}
use Rattle.ssi_conflict.proofs.tracker.meet_all.Given as goal
use Rattle.ssi_conflict.specs.Machinery.Tables.{row_at, met_if}

abbrev pub invariant-loop-reader : goal.invariant-loop-reader
invariant-loop-reader l =
    ((r : ℕ) → row_at l.table r ≡ option_map (met_if l.writer.txn l.writer.snapshot l.stamp
    (take l.reader-index l.readers) r) (row_at l.fn.table r)) ×
    (l.table ≡ record l.fn.table { records = l.table.records })
