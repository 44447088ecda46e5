use Rattle.std.proofs.Common.{◌≡◌, ◌+◌, drop}
use Rattle.adya_values.specs.Meaning.Orders.{place}
use Rattle.adya_dsg.proofs.version_orders.writers_before.Given as goal

abbrev pub invariant-loop-i : goal.invariant-loop-i
invariant-loop-i l = place l.writers l.txn ≡ l.i + place (drop l.i l.writers) l.txn
