use Rattle.ssi_conflict.proofs.NewPivots.{commit_makes_own}
use Rattle.ssi_conflict.proofs.laws.commit_makes_own_pivot.Goals as goal

pub returns : goal.returns
returns c t n ks calls a p q new = commit_makes_own t n ks calls a p q new
