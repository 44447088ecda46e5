use Rattle.std.proofs.Common.{◌≡◌, ◌++◌, map, drop}
use Rattle.adya_dsg.specs.Mirror.{edge_of}
use Rattle.adya_dsg.specs.Machinery.Arcs.{ends}
use Rattle.adya_dsg.proofs.arcs.add_arcs.Given as goal

abbrev pub invariant-loop-edge : goal.invariant-loop-edge
invariant-loop-edge l =
    l.arcs.items ++ map ends (map edge_of (drop l.edge-index l.edges)) ≡ l.fn.arcs.items ++ map ends (map edge_of l.edges)
