use Rattle.std.proofs.Common.{rules}
use Rattle.adya_audit.proofs.judge.judge.Goals as goal

pub returns-in-None : goal.returns-in-None
returns-in-None c = search rules
