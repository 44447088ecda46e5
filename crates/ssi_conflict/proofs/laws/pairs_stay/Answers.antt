use Rattle.ssi_conflict.proofs.PairsFound.{pair_after}
use Rattle.ssi_conflict.proofs.laws.pairs_stay.Goals as goal

pub returns : goal.returns
returns c x calls a r u p = pair_after x calls a r u p
