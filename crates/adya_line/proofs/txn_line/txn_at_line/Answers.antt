use Rattle.std.proofs.Common.{rules}
use Rattle.adya_line.specs.Computing.Reading.{txn_at_line}
use Rattle.adya_line.proofs.txn_line.txn_at_line.Goals as goal

pub returns-clause-exact : goal.returns-clause-exact
unfolding txn_at_line
returns-clause-exact c = search rules
