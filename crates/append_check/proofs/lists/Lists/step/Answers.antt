use Rattle.std.proofs.Common.{rules}
use Rattle.append_check.proofs.lists.Lists.step.Goals as goal

pub returns-else-same : goal.returns-else-same
returns-else-same c = search rules
