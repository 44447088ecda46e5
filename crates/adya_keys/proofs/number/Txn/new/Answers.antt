use Rattle.std.proofs.Common.{rules}
use Rattle.adya_keys.proofs.number.Txn.new.Goals as goal

pub invariant_of-result : goal.invariant_of-result
invariant_of-result c = search rules

pub returns-clause-limits : goal.returns-clause-limits
returns-clause-limits c = search rules
