use Rattle.ssi_conflict.proofs.NewPivots.{new_ordered_kept, new_pivot_kept}
use Rattle.ssi_conflict.proofs.laws.new_pivots_are_kept.Goals as goal

pub returns-clause-two_pair : goal.returns-clause-two_pair
returns-clause-two_pair c x calls a t p new = new_pivot_kept x calls a t p new

pub returns-clause-commit_order : goal.returns-clause-commit_order
returns-clause-commit_order c x calls a t p new = new_ordered_kept x calls a t p new
