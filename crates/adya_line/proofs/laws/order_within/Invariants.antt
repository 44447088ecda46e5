use Rattle.std.proofs.Common.{take}
use Rattle.std.specs.List.{AllByRecursion}
use Rattle.adya_keys.specs.Meaning.Keys.{IsTxn}
use Rattle.adya_line.proofs.laws.order_within.Given as goal

abbrev pub invariant-loop-txn : goal.invariant-loop-txn
invariant-loop-txn l = AllByRecursion IsTxn (take l.txn-index l.writers)
