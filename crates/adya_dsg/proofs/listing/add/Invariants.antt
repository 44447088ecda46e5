use Rattle.std.proofs.Common.{◌≡◌, map, fold, drop}
use Rattle.adya_values.specs.Computing.EdgeList.{with_edge}
use Rattle.adya_dsg.specs.Mirror.{edge_of}
use Rattle.adya_dsg.proofs.listing.add.Given as goal

abbrev pub invariant-loop-edge : goal.invariant-loop-edge
invariant-loop-edge l =
    fold with_edge (map edge_of l.set.keys) (map edge_of (drop l.edge-index l.edges))
    ≡ fold with_edge (map edge_of l.fn.set.keys) (map edge_of l.edges)
