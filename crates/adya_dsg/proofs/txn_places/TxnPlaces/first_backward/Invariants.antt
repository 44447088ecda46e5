use Rattle.std.proofs.Common.{◌≡◌, map, drop, find}
use Rattle.adya_dsg.specs.Mirror.{edge_of}
use Rattle.adya_dsg.specs.Machinery.PartEdges.{is_backward}
use Rattle.adya_dsg.proofs.txn_places.TxnPlaces.first_backward.Given as goal

abbrev pub invariant-loop-edge : goal.invariant-loop-edge
invariant-loop-edge l =
    find (is_backward l.self.txns.now) (map edge_of l.edges) ≡
    find (is_backward l.self.txns.now) (map edge_of (drop l.edge-index l.edges))
