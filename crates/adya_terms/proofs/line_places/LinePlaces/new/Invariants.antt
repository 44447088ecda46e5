use Rattle.adya_values.specs.Mirror.Lines.{orders_of}
use Rattle.adya_keys.specs.Machinery.Indices.{indices_in}
use Rattle.adya_terms.specs.Machinery.LinePlaces.{blank, AreParts}
use Rattle.adya_terms.proofs.line_places.LinePlaces.new.Given as goal

abbrev pub invariant-loop-i : goal.invariant-loop-i
invariant-loop-i l = AreParts (blank (orders_of l.orders)) (indices_in l.writes) (indices_in l.starts) l.i
