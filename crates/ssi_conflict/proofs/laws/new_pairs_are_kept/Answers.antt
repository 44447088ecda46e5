use Rattle.ssi_conflict.proofs.PairsKept.{new_pair_kept}
use Rattle.ssi_conflict.proofs.laws.new_pairs_are_kept.Goals as goal

pub returns : goal.returns
returns c x calls a r u p new = new_pair_kept x calls a r u p new
