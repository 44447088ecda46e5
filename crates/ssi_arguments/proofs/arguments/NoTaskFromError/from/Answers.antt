use Rattle.std.proofs.Common.{rules}
use Rattle.ssi_arguments.proofs.arguments.NoTaskFromError.from.Goals as goal

pub returns-in_default : goal.returns-in_default
returns-in_default c = search rules
