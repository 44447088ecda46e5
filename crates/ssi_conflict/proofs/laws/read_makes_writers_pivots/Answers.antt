use Rattle.ssi_conflict.proofs.NewPivots.{read_makes, read_makes_ordered}
use Rattle.ssi_conflict.proofs.laws.read_makes_writers_pivots.Goals as goal

pub returns-clause-two_pair : goal.returns-clause-two_pair
returns-clause-two_pair c t low high calls a p pivot new = read_makes t low high calls a p pivot new

pub returns-clause-commit_order : goal.returns-clause-commit_order
returns-clause-commit_order c t low high calls a p pivot new = read_makes_ordered t low high calls a p pivot new
