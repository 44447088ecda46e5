use Rattle.std.proofs.Common.{◌≡◌, ◌==◌, drop, length, not}
use Rattle.std.specs.List.{list_all}
use Rattle.adya_values.specs.Meaning.Histories.{Order}
use Rattle.adya_values.specs.Mirror.Lines.{orders_of}
use Rattle.adya_values.proofs.history.all_have_writers.Given as goal

abbrev pub invariant-loop-i : goal.invariant-loop-i
invariant-loop-i l =
    list_all (λ (o : Order). not (length o.writers == 0)) (orders_of l.orders) ≡ list_all (λ (o : Order). not (length o.writers == 0)) (drop l.i (orders_of l.orders))
