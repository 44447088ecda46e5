use Rattle.std.proofs.Common.{arith}
use Rattle.std.proofs.lemmas.Grind.{common_steps}
use Rattle.ssi_versions.proofs.keyed.compact.Goals as goal

pub chain-preserved : goal.chain-preserved
chain-preserved c = grind (arith, common_steps)
