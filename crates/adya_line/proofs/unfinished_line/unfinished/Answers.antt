use Rattle.std.proofs.Common.{rules}
use Rattle.adya_line.specs.Computing.Reading.{unfinished_at}
use Rattle.adya_line.proofs.unfinished_line.unfinished.Goals as goal

pub returns : goal.returns
unfolding unfinished_at
returns c = search rules
