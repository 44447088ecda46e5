use Rattle.std.proofs.Common.{List, ℕ, Ok, Err, Result, IfOk}
use Rattle.std.specs.declared.alloc.AllocError.{AllocError}
use Rattle.adya_values.specs.Meaning.Edges.{Edge}
use Rattle.adya_values.specs.Computing.EdgeList.{edge_list}
use Rattle.adya_terms.specs.Clauses.Checked.{checked_history}
use Rattle.digraph.specs.declared.arc.Arc.{Arc}
use Rattle.digraph.specs.declared.order.Outcome.{Outcome}
use Rattle.digraph.specs.Clauses.Graphs.{CycleIsSimple, IsOrderOrCycle}
use Rattle.adya_dsg.specs.Machinery.Arcs.{AreEnds, Decide, IsSorted}
use Rattle.adya_dsg.proofs.Certificates.{ends_are_nodes}
use Rattle.adya_dsg.proofs.ordering.sorted.Goals as goal

sorted_by : (es : List Edge) (nodes : List ℕ) (arcs : List Arc) → AreEnds es arcs → Decide es arcs
    → (r : Result Outcome AllocError) → IfOk r (IsOrderOrCycle nodes arcs) → IfOk r CycleIsSimple
    → IfOk r (IsSorted es nodes)
sorted_by es nodes arcs sound enough (Ok o) is simple =
    record { arcs = arcs; sound = sound; enough = enough; is = is; simple = simple }
sorted_by es nodes arcs sound enough (Err e) is simple = tt

pub topological_order-requires : goal.topological_order-requires
topological_order-requires c =
    ends_are_nodes (checked_history c.args.checked.now) c.requires.checked c.edge_list_is_exact.ensures
    c.args.nodes.now c.requires.nodes c.in_ok-arcs_of_links.field-0.items
    c.edges_join_committed.ensures c.in_ok-arcs_of_links.ensures.sound

pub topological_order-requires-2 : goal.topological_order-requires-2
topological_order-requires-2 c =
    ends_are_nodes (checked_history c.args.checked.now) c.requires.checked c.edge_list_is_exact.ensures
    c.args.nodes.now c.requires.nodes c.in_ok-arcs_of_all.field-0.items
    c.edges_join_committed.ensures c.in_ok-arcs_of_all.ensures.sound

pub returns : goal.returns
returns c =
    sorted_by (edge_list (checked_history c.args.checked.now)) c.args.nodes.now c.in_ok-arcs_of_all.field-0.items
    c.in_ok-arcs_of_all.ensures.sound c.in_ok-arcs_of_all.ensures.enough c.topological_order-2.result
    c.topological_order-2.ensures.found c.topological_order-2.ensures.simple
