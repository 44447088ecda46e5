use Rattle.std.proofs.Common.{◌↔◌, Contains, map}
use Rattle.digraph.specs.declared.arc.Arc.{Arc}
use Rattle.adya_dsg.specs.Machinery.VersionOrders.{ordered_history}
use Rattle.adya_dsg.specs.Machinery.Arcs.{ends}
use Rattle.adya_dsg.proofs.Parts.{edges_before}
use Rattle.adya_dsg.proofs.arcs.arcs_of_edges.Given as goal

abbrev pub invariant-loop-part : goal.invariant-loop-part
invariant-loop-part l = (a : Arc)
    → Contains l.arcs.items a ↔ Contains (map ends (edges_before (ordered_history l.versions) l.part)) a
