use Rattle.ssi_versions.proofs.Holding.{last_above}
use Rattle.ssi_versions.proofs.laws.last_is_above.Goals as goal

pub returns : goal.returns
returns c changes a k s = last_above changes a k s
