use Rattle.std.proofs.Common.{◌≡◌, ◌||◌, ℕ, drop}
use Rattle.std.specs.BTreeSet.{contains}
use Rattle.std.specs.Ordering.{nat_cmp}
use Rattle.ssi_reads.specs.Machinery.Listed.{list_marked}
use Rattle.ssi_reads.proofs.list_marks.readers.Given as goal

abbrev pub invariant-loop-mark : goal.invariant-loop-mark
invariant-loop-mark l = (t : ℕ) → (contains nat_cmp l.found t || list_marked (drop l.mark-index l.marks) t l.key) ≡ list_marked l.marks t l.key
