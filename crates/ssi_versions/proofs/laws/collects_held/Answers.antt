use Rattle.ssi_versions.proofs.Holding.{collects_held}
use Rattle.ssi_versions.proofs.laws.collects_held.Goals as goal

pub returns : goal.returns
returns c changes a ss p k = collects_held changes a ss p k
