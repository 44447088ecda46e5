use Rattle.ssi_versions.proofs.Holding.{last_held}
use Rattle.ssi_versions.proofs.laws.last_is_held.Goals as goal

pub returns : goal.returns
returns c changes k = last_held changes k
