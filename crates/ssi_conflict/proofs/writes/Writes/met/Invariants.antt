use Rattle.std.proofs.Common.{◌≡◌, None}
use Rattle.ssi_conflict.proofs.writes.Writes.met.Given as goal
use Rattle.ssi_conflict.specs.Machinery.Index.{lowest, pivot_at, stamp_at}
use Rattle.ssi_conflict.specs.Machinery.Records.{row_in}

abbrev pub invariant-loop-write : goal.invariant-loop-write
invariant-loop-write l =
    let f = pivot_at (row_in l.records) l.reading l.last in
    let g = stamp_at (row_in l.records) l.reading l.last in
    (lowest f l.met.pivot l.write-iterator ≡ lowest f None l.fn.self.writers.entries) ×
    (lowest g l.met.first l.write-iterator ≡ lowest g None l.fn.self.writers.entries)
