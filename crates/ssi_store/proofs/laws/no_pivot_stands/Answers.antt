use Rattle.ssi_conflict.specs.Computing.Steps.{smallest_ordered_pivot, smallest_pivot}
use Rattle.ssi_conflict.specs.Clauses.Pairs.{IsOrderedPivot, IsPivot}
use Rattle.ssi_store.proofs.NoPivot.{nothing_named}
use Rattle.ssi_store.proofs.PivotRules.{commit_order_rule, two_pair_rule}
use Rattle.ssi_store.proofs.SoundCourses.{course_stands}
use Rattle.ssi_store.proofs.laws.no_pivot_stands.Goals as goal

pub returns-clause-two_pair : goal.returns-clause-two_pair
returns-clause-two_pair c d f =
    let quiet = c.quiet_calls_make_no_pair.ensures in
    nothing_named IsPivot smallest_pivot (two_pair_rule quiet.begins quiet.aborts c.pivots_are_named.ensures) d
    (course_stands smallest_pivot d f)

pub returns-clause-commit_order : goal.returns-clause-commit_order
returns-clause-commit_order c d f =
    let quiet = c.quiet_calls_make_no_pair.ensures in
    nothing_named IsOrderedPivot smallest_ordered_pivot
    (commit_order_rule quiet.begins quiet.aborts c.ordered_pivots_are_named.ensures) d
    (course_stands smallest_ordered_pivot d f)
