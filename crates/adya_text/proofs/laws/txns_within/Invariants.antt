-- The numbers so far are within their limits.
use Rattle.std.proofs.Common.{take}
use Rattle.std.specs.List.{AllByRecursion}
use Rattle.adya_keys.specs.Meaning.Keys.{IsTxn}
use Rattle.adya_text.proofs.laws.txns_within.Given as goal

abbrev pub invariant-loop-txn : goal.invariant-loop-txn
invariant-loop-txn l = AllByRecursion IsTxn (take l.txn-index l.txns)
