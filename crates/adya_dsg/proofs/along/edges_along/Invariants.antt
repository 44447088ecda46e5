use Rattle.std.proofs.Common.{◌≡◌, Some, map, take}
use Rattle.adya_values.specs.Computing.EdgeList.{edge_list}
use Rattle.adya_dsg.specs.Machinery.VersionOrders.{ordered_history}
use Rattle.adya_dsg.specs.Mirror.{edge_of}
use Rattle.adya_dsg.specs.Machinery.Along.{first_along}
use Rattle.adya_dsg.proofs.along.edges_along.Given as goal

abbrev pub invariant-loop-a : goal.invariant-loop-a
invariant-loop-a l =
    map Some (map edge_of l.along.items) ≡ map (first_along (edge_list (ordered_history l.versions))) (take l.a-index l.cycle)
