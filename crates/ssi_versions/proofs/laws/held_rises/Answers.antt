use Rattle.ssi_versions.proofs.Holding.{held_stands}
use Rattle.ssi_versions.proofs.laws.held_rises.Goals as goal

pub returns : goal.returns
returns c changes a k = (held_stands changes a k).rise
