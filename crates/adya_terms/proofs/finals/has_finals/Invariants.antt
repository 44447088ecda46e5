use Rattle.std.proofs.Common.{◌≡◌, ◌||◌, drop, is_none, is_some}
use Rattle.std.specs.List.{list_all}
use Rattle.adya_values.specs.Meaning.Histories.{Order}
use Rattle.adya_values.specs.Mirror.Lines.{finals_of, orders_of}
use Rattle.adya_values.specs.Clauses.Rules.{final_value}
use Rattle.adya_values.specs.Computing.Faults.{last_value}
use Rattle.adya_terms.specs.Machinery.EventIndex.{indexed}
use Rattle.adya_terms.specs.Machinery.Checks.{parts}
use Rattle.adya_terms.proofs.finals.has_finals.Given as goal

abbrev pub invariant-loop-i : goal.invariant-loop-i
invariant-loop-i l =
    let h = parts (indexed l.index) (orders_of l.orders) (finals_of l.finals) in
    let test = λ (o : Order). is_none (last_value h o.key) || is_some (final_value h.finals o.key) in
    list_all test h.orders ≡ list_all test (drop l.i h.orders)
