use Rattle.ssi_versions.proofs.Holding.{held_shows}
use Rattle.ssi_versions.proofs.laws.held_shows.Goals as goal

pub returns : goal.returns
returns c changes a k s p = held_shows changes a k s p
