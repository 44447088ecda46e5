use Rattle.std.proofs.Common.{◌≡◌, map, take}
use Rattle.adya_values.specs.Mirror.Events.{order_of}
use Rattle.adya_values.specs.Mirror.Lines.{orders_of}
use Rattle.adya_testing.proofs.histories.packed_orders.Given as goal

abbrev pub invariant-loop-order : goal.invariant-loop-order
invariant-loop-order l = orders_of l.list ≡ map order_of (take l.order-index l.orders)
