use Rattle.std.proofs.Common.{arith}
use Rattle.std.proofs.lemmas.Grind.{common_steps}
use Rattle.ssi_versions.proofs.plain.append.Goals as goal

pub writes-preserved : goal.writes-preserved
writes-preserved c = grind (arith, common_steps)
