use Rattle.std.proofs.Common.{arith}
use Rattle.std.proofs.lemmas.Grind.{common_steps}
use Rattle.adya_line.specs.Computing.Reading.{event_at}
use Rattle.adya_line.proofs.event_line.event_at.Goals as goal

pub returns-in-115 : goal.returns-in-115
unfolding event_at
returns-in-115 c = grind (arith, common_steps)
