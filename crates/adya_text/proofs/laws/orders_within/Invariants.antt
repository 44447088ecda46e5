-- The orders so far that have a writer are within their limits.
use Rattle.std.proofs.Common.{◌<◌, take, length}
use Rattle.std.specs.List.{AllByRecursion}
use Rattle.adya_values.specs.Mirror.Lines.{orders_of}
use Rattle.adya_line.specs.Meaning.Limits.{IsOrder}
use Rattle.adya_text.proofs.laws.orders_within.Given as goal

abbrev pub invariant-loop-i : goal.invariant-loop-i
invariant-loop-i l = AllByRecursion (λ o. 0 < length o.writers → IsOrder o) (take l.i (orders_of l.orders))
