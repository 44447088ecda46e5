use Rattle.std.proofs.Common.{◌≡◌, ◌+◌, ◌≤◌, ℕ, length, drop}
use Rattle.txn_table.specs.Mirror.{value_for}
use Rattle.adya_values.specs.Meaning.Orders.{place}
use Rattle.txn_table.proofs.places.places_of.Given as goal

abbrev pub invariant-loop-i : goal.invariant-loop-i
invariant-loop-i l =
    (l.i ≤ length l.txns) ×
    ((t : ℕ) → value_for l.places t ≡ l.i + place (drop l.i l.txns) t)

abbrev pub decreases-loop-i : goal.decreases-loop-i
decreases-loop-i l = l.i
