use Rattle.std.proofs.Common.{rules}
use Rattle.adya_audit.proofs.answer.answer_on.Goals as goal

pub returns-in-Serial : goal.returns-in-Serial
returns-in-Serial c = search rules
