use Rattle.std.proofs.Common.{rules}
use Rattle.lists_verdicts.proofs.phenomenon.is_aborted.Goals as goal

pub returns-in-Committed : goal.returns-in-Committed
returns-in-Committed c = search rules
