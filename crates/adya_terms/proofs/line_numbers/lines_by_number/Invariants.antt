use Rattle.adya_keys.specs.Machinery.Indices.{indices_in}
use Rattle.adya_values.specs.Mirror.Lines.{orders_of}
use Rattle.adya_values.specs.Mirror.Numbers.{keys_of}
use Rattle.adya_terms.specs.Mirror.LineNumbers.{FindsLines}
use Rattle.adya_terms.proofs.line_numbers.lines_by_number.Given as goal

abbrev pub invariant-loop-i : goal.invariant-loop-i
invariant-loop-i l = FindsLines (indices_in l.lines) (keys_of l.events) (orders_of l.orders) l.i
