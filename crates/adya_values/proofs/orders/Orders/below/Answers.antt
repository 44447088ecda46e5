use Rattle.std.proofs.lemmas.Simd.{map-map}
use Rattle.adya_values.proofs.orders.Orders.below.Goals as goal

pub returns-clause-below : goal.returns-clause-below
returns-clause-below c = rw map-map c.below.ensures.below
