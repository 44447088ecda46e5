use Rattle.std.proofs.Common.{rules}
use Rattle.adya_audit.proofs.ordering.run_order.Goals as goal

pub returns-in_err-answer-clause-unwritten : goal.returns-in_err-answer-clause-unwritten
returns-in_err-answer-clause-unwritten g c = search rules

pub returns-clause-answer : goal.returns-clause-answer
returns-clause-answer g c = search rules
