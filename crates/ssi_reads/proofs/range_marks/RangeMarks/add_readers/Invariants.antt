use Rattle.std.proofs.Common.{◌≡◌, ◌||◌, ℕ}
use Rattle.std.specs.BTreeSet.{contains}
use Rattle.std.specs.Ordering.{nat_cmp}
use Rattle.ssi_reads.specs.Machinery.Ranged.{met}
use Rattle.ssi_reads.proofs.range_marks.RangeMarks.add_readers.Given as goal

abbrev pub invariant-loop-len : goal.invariant-loop-len
invariant-loop-len l = (u : ℕ) → contains nat_cmp l.found u ≡ (met l.self l.key u l.len || contains nat_cmp l.fn.found u)
