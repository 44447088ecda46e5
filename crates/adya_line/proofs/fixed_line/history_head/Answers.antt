use Rattle.std.proofs.Common.{rules}
use Rattle.adya_line.proofs.fixed_line.history_head.Goals as goal

pub returns : goal.returns
returns c = search rules
