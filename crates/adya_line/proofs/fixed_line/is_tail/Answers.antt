use Rattle.std.proofs.Common.{rules}
use Rattle.adya_line.proofs.fixed_line.is_tail.Goals as goal

pub returns : goal.returns
returns c = search rules
