use Rattle.std.proofs.Common.{All, map, sym, subst, ◌∙◌}
use Rattle.digraph.specs.Clauses.Graphs.{CycleIsSimple, IsCycle as IsArcCycle, IsOrderOrCycle, IsSimple as IsArcSimple}
use Rattle.adya_keys.specs.Meaning.Keys.{IsTxn}
use Rattle.adya_values.specs.Computing.EdgeList.{edge_list}
use Rattle.adya_values.specs.Clauses.Acceptance.{IsAccepted}
use Rattle.adya_dsg.specs.Machinery.Arcs.{AreEnds}
use Rattle.adya_terms.specs.Clauses.Checked.{checked_history}
use Rattle.adya_values.specs.Meaning.Edges.{IsCycle}
use Rattle.adya_dsg.specs.Machinery.VersionOrders.{ordered_history}
use Rattle.adya_dsg.specs.Mirror.{edge_of}
use Rattle.adya_values.specs.Mirror.Histories.{history_of}
use Rattle.adya_values.specs.declared.history.History.{History as HistoryValue}
use Rattle.adya_dsg.proofs.CommittedNodes.{order_has_numbers}
use Rattle.adya_dsg.proofs.Certificates.{accepted_if_sorted, cycle_has_edges, first_edges_are_cycle, first_edges_are_simple}
use Rattle.adya_dsg.proofs.ordering.found.Goals as goal

pub serial_of-requires : goal.serial_of-requires
serial_of-requires c =
    let nodes = c.args.nodes.now in
    let s = c.in_ok-order.ensures in
    let order = subst (IsOrderOrCycle nodes s.arcs) c.in-Order.is s.is in
    subst (All IsTxn) (sym c.deref.ensures.value)
    (order_has_numbers nodes c.in-Order.order.items order.nodes_once c.requires.numbers)

pub returns-in_ok-serial_of-in-Order-clause-found : goal.returns-in_ok-serial_of-in-Order-clause-found
returns-in_ok-serial_of-in-Order-clause-found c =
    let h = checked_history c.args.checked.now in
    let nodes = c.args.nodes.now in
    let s = c.in_ok-order.ensures in
    let order = subst (IsOrderOrCycle nodes s.arcs) c.in-Order.is s.is in
    subst (IsAccepted h) (sym (c.in_ok-serial_of-in-Order.ensures ∙ c.deref.ensures.value))
    (accepted_if_sorted h c.requires.checked c.edge_list_is_exact.ensures nodes c.requires.nodes s.arcs s.enough
    c.in-Order.order.items order)

pub edges_along-requires : goal.edges_along-requires
edges_along-requires c =
    let s = c.in_ok-order.ensures in
    let cyclic = subst (IsOrderOrCycle c.args.nodes.now s.arcs) c.in-Cycle.is s.is in
    let ends = cycle_has_edges (edge_list (checked_history c.args.checked.now)) s.arcs c.in-Cycle.cycle.items s.sound cyclic in
    subst (λ (g : HistoryValue). AreEnds (edge_list (history_of g)) c.deref-in-Cycle.result.now) (sym c.in_ok-versions-in-Cycle.ensures.same)
    (subst (AreEnds (edge_list (checked_history c.args.checked.now))) (sym c.deref-in-Cycle.ensures.value) ends)

pub returns-in_ok-edges_along-in-Cycle-clause-found : goal.returns-in_ok-edges_along-in-Cycle-clause-found
returns-in_ok-edges_along-in-Cycle-clause-found c =
    let s = c.in_ok-order.ensures in
    let cyclic = subst (IsOrderOrCycle c.args.nodes.now s.arcs) c.in-Cycle.is s.is in
    subst (λ (g : HistoryValue). IsCycle (history_of g) (map edge_of c.in_ok-edges_along-in-Cycle.field-0.items)) c.in_ok-versions-in-Cycle.ensures.same
    (first_edges_are_cycle (ordered_history c.in_ok-versions-in-Cycle.versions) c.edge_list_is_exact.ensures _ s.arcs
    c.deref-in-Cycle.result.now
    (subst (IsArcCycle s.arcs) (sym c.deref-in-Cycle.ensures.value) cyclic)
    c.in_ok-edges_along-in-Cycle.ensures)

pub returns-in_ok-edges_along-in-Cycle-clause-simple : goal.returns-in_ok-edges_along-in-Cycle-clause-simple
returns-in_ok-edges_along-in-Cycle-clause-simple c =
    first_edges_are_simple (edge_list (ordered_history c.in_ok-versions-in-Cycle.versions)) _ c.deref-in-Cycle.result.now
    (subst IsArcSimple (sym c.deref-in-Cycle.ensures.value) (subst CycleIsSimple c.in-Cycle.is c.in_ok-order.ensures.simple))
    c.in_ok-edges_along-in-Cycle.ensures
