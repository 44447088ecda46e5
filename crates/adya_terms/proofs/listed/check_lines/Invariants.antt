use Rattle.std.proofs.Common.{◌≡◌, ◌+◌, List, drop}
use Rattle.adya_values.specs.Meaning.Histories.{Event}
use Rattle.adya_values.specs.Computing.Faults.{order_faults}
use Rattle.adya_terms.specs.Machinery.Places.{orders_in, Judges}
use Rattle.adya_terms.proofs.listed.check_lines.Given as goal

abbrev pub invariant-loop-i : goal.invariant-loop-i
invariant-loop-i l =
    let os = orders_in l.placing in
    (all : List Event) → Judges all os l.placing → order_faults all l.first os ≡ order_faults all (l.first + l.i) (drop l.i os)
