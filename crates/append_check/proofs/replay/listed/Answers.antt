use Rattle.std.proofs.Common.{arith}
use Rattle.std.proofs.lemmas.Grind.{common_steps}
use Rattle.append_check.proofs.replay.listed.Goals as goal

pub order-preserved : goal.order-preserved
order-preserved c = grind (arith, common_steps)
