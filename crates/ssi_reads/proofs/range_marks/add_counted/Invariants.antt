use Rattle.std.proofs.Common.{◌≡◌, ◌||◌, ℕ}
use Rattle.std.specs.BTreeSet.{contains}
use Rattle.std.specs.List.Sorted.{IsStrictlySortedBy}
use Rattle.std.specs.Ordering.{nat_cmp}
use Rattle.ssi_reads.specs.Machinery.Prefixes.{mark_cmp}
use Rattle.ssi_reads.specs.Machinery.Ranged.{any_counts}
use Rattle.ssi_reads.proofs.range_marks.add_counted.Given as goal

abbrev pub invariant-loop-mark : goal.invariant-loop-mark
invariant-loop-mark l =
    ((u : ℕ) → (any_counts l.places l.prefix l.key u l.mark-iterator || contains nat_cmp l.found u) ≡ (any_counts l.places l.prefix l.key u l.marks.keys || contains nat_cmp l.fn.found u))
    × IsStrictlySortedBy mark_cmp l.mark-iterator
