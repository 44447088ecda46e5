use Rattle.std.proofs.Common.{get_or, sym, ◌∙◌, ap, map, option_map, is_some, Some, falls}
use Rattle.std.proofs.lemmas.Result.{IfOk-from_err}
use Rattle.std.proofs.lemmas.List.Elements.{Contains-get_or}
use Rattle.digraph.specs.declared.arc.Arc.{Arc}
use Rattle.adya_values.specs.Computing.EdgeList.{edge_list}
use Rattle.adya_dsg.specs.Machinery.VersionOrders.{ordered_history}
use Rattle.adya_dsg.specs.Machinery.Along.{joins}
use Rattle.adya_dsg.specs.Mirror.{edge_of}
use Rattle.adya_dsg.proofs.FirstAlong.{ends_equal, first_found, along_more, is_some-option_map}
use Rattle.adya_dsg.proofs.along.edges_along.Goals as goal

pub index-requires : goal.index-requires
index-requires c =
    let h = ordered_history c.args.versions.now in
    let none : Arc = record { from = 0; to = 0 } in
    let a = get_or c.args.cycle.now c.loop-a.a-index none in
    let there = Contains-get_or c.args.cycle.now c.loop-a.a-index none c.loop-a-test.true in
    let e = c.requires a there in
    sym (is_some-option_map edge_of _) ∙
    (ap is_some (c.in_ok-first.ensures a there ∙ sym (c.edge_list_keeps_first.ensures h (joins a))) ∙
    first_found (edge_list h) a e.edge e.stands (ends_equal e.edge a e.from e.to))

pub loop-a-preserved : goal.loop-a-preserved
loop-a-preserved c =
    let h = ordered_history c.args.versions.now in
    let none : Arc = record { from = 0; to = 0 } in
    let a = get_or c.args.cycle.now c.loop-a.a-index none in
    let there = Contains-get_or c.args.cycle.now c.loop-a.a-index none c.loop-a-test.true in
    ap (λ zs. map Some (map edge_of zs)) c.in_ok-push.ensures.items ∙
    along_more (edge_list h) c.loop-a.along.items c.args.cycle.now c.loop-a.a-index none _ c.loop-a-test.true
    (c.edge_list_keeps_first.ensures h (joins a) ∙
    (sym (c.in_ok-first.ensures a there) ∙ ap (option_map edge_of) c.index.ensures))
    c.loop-a.invariant

pub edge_list_keeps_first-requires : goal.edge_list_keeps_first-requires
edge_list_keeps_first-requires c = tt

pub first_edges-requires : goal.first_edges-requires
first_edges-requires c = tt

pub returns-in_err-first : goal.returns-in_err-first
returns-in_err-first c = IfOk-from_err c.from_residual.result _ c.from_residual.ensures.0

pub bounds-cycle-a-index : goal.bounds-cycle-a-index
bounds-cycle-a-index c = c.loop-a-test.true

pub returns-in_err-push : goal.returns-in_err-push
returns-in_err-push c = IfOk-from_err c.from_residual-in_err-push.result _ c.from_residual-in_err-push.ensures.0

pub loop-a-smaller : goal.loop-a-smaller
loop-a-smaller c = falls _ _ c.loop-a-test.true
