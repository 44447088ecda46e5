use Rattle.ssi_conflict.proofs.PairsFound.{found_back, found_step}
use Rattle.ssi_conflict.proofs.laws.pairs_are_found.Goals as goal

pub returns : goal.returns
returns c calls a r u = (found_back calls a r u, found_step calls a r u)
