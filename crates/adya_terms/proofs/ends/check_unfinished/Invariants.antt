use Rattle.std.proofs.Common.{◌≡◌, ◌+◌, drop}
use Rattle.adya_values.specs.Computing.Faults.{unfinished_faults}
use Rattle.adya_terms.specs.Machinery.EventIndex.{indexed, unfinished_in}
use Rattle.adya_terms.proofs.ends.check_unfinished.Given as goal

abbrev pub invariant-loop-i : goal.invariant-loop-i
invariant-loop-i l =
    let all = indexed l.index in
    unfinished_faults all l.first (unfinished_in l.index) ≡ unfinished_faults all (l.first + l.i) (drop l.i (unfinished_in l.index))
