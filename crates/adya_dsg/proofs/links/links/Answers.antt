use Rattle.std.proofs.Common.{◌≡◌, ◌++◌, List, map, flat_map, ◌∙◌, ap}
use Rattle.std.proofs.lemmas.Result.{IfOk-from_err}
use Rattle.adya_values.specs.Meaning.Histories.{Order}
use Rattle.adya_values.specs.Mirror.Lines.{orders_of}
use Rattle.digraph.specs.declared.arc.Arc.{Arc}
use Rattle.adya_dsg.specs.Machinery.VersionOrders.{ordered_history}
use Rattle.adya_dsg.specs.Machinery.Arcs.{ends}
use Rattle.adya_dsg.specs.Machinery.PartEdges.{line_edges}
use Rattle.adya_dsg.specs.Machinery.Links.{event_links, links}
use Rattle.adya_dsg.proofs.LinksDecide.{readers, ends_by_parts, links_are_ends, links_decide}
use Rattle.adya_dsg.proofs.links.links.Goals as goal

-- the arcs are the ends of the links
are_ends : (c : goal.In_ok-add_event_arcs)
    → c.add_event_arcs.new.arcs.items ≡ map ends (links (ordered_history c.args.versions.now))
are_ends c =
    let h = ordered_history c.args.versions.now in
    let of_lines : List Order → List Arc = λ os. map ends (flat_map (λ o. line_edges o.key o.writers) os) in
    let of_events = map ends (flat_map (event_links h) (readers h)) in
    c.in_ok-add_event_arcs.ensures ∙
    (ap (λ (zs : List Arc). zs ++ of_events)
    (c.in_ok-add_write_arcs.ensures ∙
    (ap (λ (zs : List Arc). zs ++ of_lines (orders_of c.orders.result.now)) c.in_ok-arcs.ensures.items ∙ ap of_lines c.orders.ensures.value)) ∙
    ends_by_parts h c.orders.ensures.rise)

pub returns-clause-sound : goal.returns-clause-sound
returns-clause-sound c =
    links_are_ends c.edge_list_keeps_first.ensures (ordered_history c.args.versions.now)
    c.add_event_arcs.new.arcs.items (are_ends c)

pub returns-clause-enough : goal.returns-clause-enough
returns-clause-enough c =
    links_decide c.edge_list_keeps_first.ensures (ordered_history c.args.versions.now)
    c.add_event_arcs.new.arcs.items (are_ends c) c.selected_is_installed.ensures c.requires

pub edge_list_keeps_first-requires : goal.edge_list_keeps_first-requires
edge_list_keeps_first-requires c = tt

pub selected_is_installed-requires : goal.selected_is_installed-requires
selected_is_installed-requires c = tt

pub event_count-requires : goal.event_count-requires
event_count-requires c = tt

pub orders-requires : goal.orders-requires
orders-requires c = tt

pub add_write_arcs-requires : goal.add_write_arcs-requires
add_write_arcs-requires c = tt

pub add_event_arcs-requires : goal.add_event_arcs-requires
add_event_arcs-requires c = tt

pub returns-in_err-arcs-clause-sound : goal.returns-in_err-arcs-clause-sound
returns-in_err-arcs-clause-sound c = IfOk-from_err c.from_residual.result _ c.from_residual.ensures.0

pub returns-in_err-arcs-clause-enough : goal.returns-in_err-arcs-clause-enough
returns-in_err-arcs-clause-enough c = IfOk-from_err c.from_residual.result _ c.from_residual.ensures.0

pub returns-in_err-add_write_arcs-clause-sound : goal.returns-in_err-add_write_arcs-clause-sound
returns-in_err-add_write_arcs-clause-sound c = IfOk-from_err c.from_residual-in_err-add_write_arcs.result _ c.from_residual-in_err-add_write_arcs.ensures.0

pub returns-in_err-add_write_arcs-clause-enough : goal.returns-in_err-add_write_arcs-clause-enough
returns-in_err-add_write_arcs-clause-enough c = IfOk-from_err c.from_residual-in_err-add_write_arcs.result _ c.from_residual-in_err-add_write_arcs.ensures.0

pub returns-in_err-add_event_arcs-clause-sound : goal.returns-in_err-add_event_arcs-clause-sound
returns-in_err-add_event_arcs-clause-sound c = IfOk-from_err c.from_residual-in_err-add_event_arcs.result _ c.from_residual-in_err-add_event_arcs.ensures.0

pub returns-in_err-add_event_arcs-clause-enough : goal.returns-in_err-add_event_arcs-clause-enough
returns-in_err-add_event_arcs-clause-enough c = IfOk-from_err c.from_residual-in_err-add_event_arcs.result _ c.from_residual-in_err-add_event_arcs.ensures.0
