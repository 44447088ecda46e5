use Rattle.std.proofs.Common.{rules}
use Rattle.append_check.proofs.replay.is_right.Goals as goal

pub returns-in-Aborted : goal.returns-in-Aborted
returns-in-Aborted c = search rules
