use Rattle.std.proofs.Common.{◌≡◌}
use Rattle.adya_values.specs.Mirror.Lines.{orders_of}
use Rattle.adya_terms.specs.Machinery.EventIndex.{indexed, keys_in, last_in}
use Rattle.adya_terms.specs.Machinery.Places.{orders_in, ArePlaced}
use Rattle.adya_terms.proofs.placing.Placing.of.Given as goal

abbrev pub invariant-loop-at : goal.invariant-loop-at
invariant-loop-at l = record {
  orders : orders_in l.placing ≡ orders_of l.orders;
  placed : ArePlaced (indexed l.index) (last_in l.index) l.at (keys_in l.index) (orders_of l.orders) l.placing;
}
