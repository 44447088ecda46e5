use Rattle.std.proofs.Common.{◌≡◌, ◌++◌, ◌∷◌, ℕ, List, map, drop}
use Rattle.adya_dsg.specs.Machinery.Arcs.{ends}
use Rattle.adya_dsg.specs.Machinery.PartEdges.{line_edges}
use Rattle.adya_dsg.proofs.write_edges.push_write_arcs.Given as goal

abbrev pub invariant-loop-to : goal.invariant-loop-to
invariant-loop-to l = (key : List ℕ)
    → l.arcs.items ++ map ends (line_edges key (l.last ∷ drop l.to-index l.rest)) ≡
    l.fn.arcs.items ++ map ends (line_edges key l.writers)
