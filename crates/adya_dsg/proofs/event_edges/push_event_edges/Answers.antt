use Rattle.std.proofs.Common.{◌<◌, ◌+◌, ◌++◌, List, map, drop, flat_map, length, get_or, sym, ◌∙◌, ap, subst, falls, append-nil}
use Rattle.std.proofs.lemmas.Result.{IfOk-from_err}
use Rattle.adya_dsg.specs.Machinery.VersionOrders.{ordered_history}
use Rattle.adya_dsg.specs.declared.selection.Selection.{Selection}
use Rattle.adya_dsg.specs.Mirror.{edge_of}
use Rattle.adya_dsg.specs.Machinery.Choices.{choice_of, event_at}
use Rattle.adya_dsg.specs.Machinery.PartEdges.{choice_edges}
use Rattle.lemmas.proofs.Steps.{flat_map_step}
use Rattle.adya_dsg.proofs.FlatMaps.{drop_at, left_end}
use Rattle.adya_dsg.proofs.EventEdges.{event_edges_are}
use Rattle.adya_dsg.proofs.event_edges.push_event_edges.Goals as goal

pub loop-at-init : goal.loop-at-init
loop-at-init c =
    let h = ordered_history c.args.versions.now in
    let e = event_at h c.args.event in
    let old = map edge_of c.args.edges.now.items in
    ap (λ zs. old ++ flat_map (choice_edges h e) (map (choice_of h) zs)) c.as_slice-at-items.ensures.value ∙
    (ap (λ cs. old ++ flat_map (choice_edges h e) cs) c.in_ok-select.ensures.choices ∙
    ap (λ es. old ++ es) (sym (event_edges_are h e)))

pub push_edges_at-requires-clause-within : goal.push_edges_at-requires-clause-within
push_edges_at-requires-clause-within c =
    let i = c.loop-at.at-index in
    let os = (ordered_history c.args.versions.now).orders in
    let none : Selection = record { line = 0; place = 0 } in
    subst (λ (zs : List Selection). (get_or zs i none).line < length os) (sym c.as_slice-at-items.ensures.value)
    (c.in_ok-select.ensures.within i none
    (subst (λ (zs : List Selection). i < length zs) c.as_slice-at-items.ensures.value c.loop-at-test.true))

pub loop-at-preserved : goal.loop-at-preserved
loop-at-preserved c =
    let h = ordered_history c.args.versions.now in
    let e = event_at h c.args.event in
    let ss = c.as_slice-at-items.result.now in
    let i = c.loop-at.at-index in
    let s = get_or ss i (record { line = 0; place = 0 }) in
    let rest = map (choice_of h) (drop (i + 1) ss) in
    ap (λ es. es ++ flat_map (choice_edges h e) rest) c.in_ok-push_edges_at.ensures ∙
    flat_map_step (choice_edges h e) (map (choice_of h) (drop i ss)) rest (choice_of h s)
    (ap (map (choice_of h)) (drop_at ss i (record { line = 0; place = 0 }) c.loop-at-test.true))
    (map edge_of c.loop-at.edges.items) _ c.loop-at.invariant

pub select-requires : goal.select-requires
select-requires c = c.requires

pub returns-in_err-select : goal.returns-in_err-select
returns-in_err-select c = IfOk-from_err c.from_residual.result _ c.from_residual.ensures.0

pub bounds-at-items-at-index : goal.bounds-at-items-at-index
bounds-at-items-at-index c = c.loop-at-test.true

pub push_edges_at-requires-clause-there : goal.push_edges_at-requires-clause-there
push_edges_at-requires-clause-there c = c.requires

pub returns-in_err-push_edges_at : goal.returns-in_err-push_edges_at
returns-in_err-push_edges_at c = IfOk-from_err c.from_residual-in_err-push_edges_at.result _ c.from_residual-in_err-push_edges_at.ensures.0

pub loop-at-smaller : goal.loop-at-smaller
loop-at-smaller c = falls _ _ c.loop-at-test.true

pub returns : goal.returns
returns c =
    let h = ordered_history c.args.versions.now in
    let edges = choice_edges h (event_at h c.args.event) in
    let now = map edge_of c.loop-at.edges.items in
    sym (append-nil now) ∙
    (ap (λ es. now ++ es) (sym (left_end edges (choice_of h) c.as_slice-at-items.result.now c.loop-at.at-index c.loop-at-test.false)) ∙
    c.loop-at.invariant)
