use Rattle.std.proofs.Common.{rules}
use Rattle.edn.proofs.number.sign_of.Goals as goal

pub returns-in-45 : goal.returns-in-45
returns-in-45 c = search rules
