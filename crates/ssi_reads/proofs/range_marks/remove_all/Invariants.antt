use Rattle.ssi_reads.specs.Machinery.Ranged.{HasOthers}
use Rattle.ssi_reads.proofs.range_marks.remove_all.Given as goal

abbrev pub invariant-loop-place : goal.invariant-loop-place
invariant-loop-place l = HasOthers l.txn l.fn.marks l.marks
