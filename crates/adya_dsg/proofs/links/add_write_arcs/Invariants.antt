use Rattle.std.proofs.Common.{◌≡◌, ◌++◌, map, drop, flat_map}
use Rattle.adya_values.specs.Mirror.Lines.{orders_of}
use Rattle.adya_dsg.specs.Machinery.PartEdges.{line_edges}
use Rattle.adya_dsg.specs.Machinery.Arcs.{ends}
use Rattle.adya_dsg.proofs.links.add_write_arcs.Given as goal

abbrev pub invariant-loop-line : goal.invariant-loop-line
invariant-loop-line l =
    l.arcs.items ++ map ends (flat_map (λ o. line_edges o.key o.writers) (drop l.line (orders_of l.orders)))
    ≡ l.fn.arcs.items ++ map ends (flat_map (λ o. line_edges o.key o.writers) (orders_of l.orders))
