use Rattle.std.proofs.Common.{◌≡◌, ◌++◌, ◌∷◌, map, drop}
use Rattle.adya_dsg.specs.Mirror.{edge_of}
use Rattle.adya_dsg.specs.Machinery.PartEdges.{line_edges}
use Rattle.adya_dsg.proofs.write_edges.push_write_edges.Given as goal

abbrev pub invariant-loop-to : goal.invariant-loop-to
invariant-loop-to l =
    map edge_of l.edges.items ++ line_edges l.key (l.last ∷ drop l.to-index l.rest) ≡
    map edge_of l.fn.edges.items ++ line_edges l.key l.writers
