use Rattle.std.proofs.Common.{arith}
use Rattle.std.proofs.lemmas.Grind.{common_steps}
use Rattle.adya_audit.proofs.writing.put_ends.Goals as goal

pub returns : goal.returns
returns g c = grind (arith, common_steps)
