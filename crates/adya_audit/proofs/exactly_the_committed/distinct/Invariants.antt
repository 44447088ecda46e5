use Rattle.std.proofs.Common.{◌≡◌, ℕ, ◌+◌, ◌==◌, cond, drop}
use Rattle.std.specs.List.{count_by}
use Rattle.std.specs.Ordering.{nat_cmp}
use Rattle.std.specs.BTreeSet.{contains}
use Rattle.adya_audit.proofs.exactly_the_committed.distinct.Given as goal

abbrev pub invariant-loop-txn : goal.invariant-loop-txn
invariant-loop-txn l =
    (t : ℕ) → cond (contains nat_cmp l.numbers t) 1 0 + count_by (λ u. u == t) (drop l.txn-index l.txns)
    ≡ count_by (λ u. u == t) l.txns
