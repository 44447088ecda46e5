use Rattle.std.proofs.Common.{take}
use Rattle.adya_terms.specs.Machinery.Checks.{Holds}
use Rattle.adya_terms.proofs.event_index.set_of.Given as goal

abbrev pub invariant-loop-txn : goal.invariant-loop-txn
invariant-loop-txn l = Holds l.set (take l.txn-index l.txns)
