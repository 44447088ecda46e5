use Rattle.std.proofs.Common.{arith}
use Rattle.std.proofs.lemmas.Grind.{common_steps}
use Rattle.adya_line.specs.Computing.Reading.{event_at}
use Rattle.adya_line.proofs.event_line.read_event_with.Goals as goal

pub returns-in-115-clause-exact : goal.returns-in-115-clause-exact
unfolding event_at
returns-in-115-clause-exact c = grind (arith, common_steps)
