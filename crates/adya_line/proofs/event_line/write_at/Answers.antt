use Rattle.std.proofs.Common.{rules}
use Rattle.adya_line.specs.Computing.Reading.{write_at}
use Rattle.adya_line.proofs.event_line.write_at.Goals as goal

pub returns : goal.returns
unfolding write_at
returns c = search rules
