use Rattle.ssi_conflict.specs.Computing.Steps.{smallest_ordered_pivot, smallest_pivot}
use Rattle.ssi_conflict.specs.Clauses.Pairs.{IsOrderedPivot, IsPivot}
use Rattle.ssi_store.proofs.UnsafeAnswers.{unsafe_by}
use Rattle.ssi_store.proofs.PivotRules.{commit_order_rule, two_pair_rule}
use Rattle.ssi_store.proofs.laws.unsafe_names_smallest.Goals as goal

pub returns-clause-two_pair : goal.returns-clause-two_pair
returns-clause-two_pair c d f m p e =
    let quiet = c.quiet_calls_make_no_pair.ensures in
    unsafe_by IsPivot smallest_pivot (two_pair_rule quiet.begins quiet.aborts c.pivots_are_named.ensures) d f m p e

pub returns-clause-commit_order : goal.returns-clause-commit_order
returns-clause-commit_order c d f m p e =
    let quiet = c.quiet_calls_make_no_pair.ensures in
    unsafe_by IsOrderedPivot smallest_ordered_pivot
    (commit_order_rule quiet.begins quiet.aborts c.ordered_pivots_are_named.ensures) d f m p e
