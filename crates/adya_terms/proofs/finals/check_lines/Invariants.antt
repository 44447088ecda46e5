use Rattle.std.proofs.Common.{◌≡◌, ◌+◌, drop}
use Rattle.adya_values.specs.Mirror.Lines.{finals_of, orders_of}
use Rattle.adya_values.specs.Computing.Faults.{final_faults}
use Rattle.adya_terms.specs.Machinery.EventIndex.{indexed}
use Rattle.adya_terms.specs.Machinery.Checks.{parts}
use Rattle.adya_terms.proofs.finals.check_lines.Given as goal

abbrev pub invariant-loop-i : goal.invariant-loop-i
invariant-loop-i l =
    let h = parts (indexed l.index) (orders_of l.orders) (finals_of l.finals) in
    final_faults h l.first h.finals ≡ final_faults h (l.first + l.i) (drop l.i h.finals)
