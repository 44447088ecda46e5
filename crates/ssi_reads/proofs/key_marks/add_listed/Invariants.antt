use Rattle.std.proofs.Common.{◌≡◌, ◌||◌, ◌&&◌, ℕ}
use Rattle.std.specs.List.{list_any}
use Rattle.std.specs.BTreeSet.{contains}
use Rattle.std.specs.Ordering.{nat_cmp, is_eq}
use Rattle.ssi_reads.specs.Machinery.Indexed.{listed}
use Rattle.ssi_reads.proofs.key_marks.add_listed.Given as goal

abbrev pub invariant-loop-txn : goal.invariant-loop-txn
invariant-loop-txn l = (u : ℕ) → ((list_any (λ x. is_eq (nat_cmp u x)) l.txn-iterator && listed l.keys u l.key) || contains nat_cmp l.found u) ≡ ((contains nat_cmp l.set u && listed l.keys u l.key) || contains nat_cmp l.fn.found u)
