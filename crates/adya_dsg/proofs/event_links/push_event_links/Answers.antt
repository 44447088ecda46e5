use Rattle.std.proofs.Common.{◌<◌, ◌+◌, ◌++◌, List, All, map, drop, length, flat_map, falls, sym, ◌∙◌, ap, subst}
use Rattle.std.proofs.lemmas.Result.{IfOk-from_err}
use Rattle.adya_dsg.specs.declared.selection.Selection.{Selection}
use Rattle.adya_dsg.specs.Machinery.VersionOrders.{ordered_history}
use Rattle.adya_dsg.specs.Machinery.Arcs.{ends}
use Rattle.adya_dsg.specs.Machinery.Choices.{choice_of, event_at}
use Rattle.adya_dsg.specs.Machinery.Links.{choice_links}
use Rattle.adya_dsg.proofs.FlatMaps.{left_step, left_end, added_front, all_added}
use Rattle.adya_dsg.proofs.event_links.push_event_links.Goals as goal

pub select-requires : goal.select-requires
select-requires c = c.requires

pub returns-in_err-select : goal.returns-in_err-select
returns-in_err-select c = IfOk-from_err c.from_residual.result _ c.from_residual.ensures.0

pub loop-at-init : goal.loop-at-init
loop-at-init c =
    let h = ordered_history c.args.versions.now in
    ap (λ cs. c.args.links.now.items ++ map ends (flat_map (choice_links h (event_at h c.args.event)) cs))
    (ap (map (choice_of h)) c.as_slice-at-items.ensures.value ∙ c.in_ok-select.ensures.choices)

pub bounds-at-items-at-index : goal.bounds-at-items-at-index
bounds-at-items-at-index c = c.loop-at-test.true

pub push_links_at-requires-clause-there : goal.push_links_at-requires-clause-there
push_links_at-requires-clause-there c = c.requires

pub push_links_at-requires-clause-within : goal.push_links_at-requires-clause-within
push_links_at-requires-clause-within c =
    let n = length (ordered_history c.args.versions.now).orders in
    subst (λ (ss : List Selection). All (λ s. s.line < n) ss) (sym c.as_slice-at-items.ensures.value)
    c.in_ok-select.ensures.within c.loop-at.at-index _ c.loop-at-test.true

pub returns-in_err-push_links_at : goal.returns-in_err-push_links_at
returns-in_err-push_links_at c =
    IfOk-from_err c.from_residual-in_err-push_links_at.result _ c.from_residual-in_err-push_links_at.ensures.0

pub loop-at-smaller : goal.loop-at-smaller
loop-at-smaller c = falls _ _ c.loop-at-test.true

pub loop-at-preserved : goal.loop-at-preserved
loop-at-preserved c =
    let h = ordered_history c.args.versions.now in
    let links = choice_links h (event_at h c.args.event) in
    let items = c.as_slice-at-items.result.now in
    let i = c.loop-at.at-index in
    ap (λ ls. ls ++ map ends (flat_map links (map (choice_of h) (drop (i + 1) items)))) c.in_ok-push_links_at.ensures ∙
    added_front ends c.loop-at.links.items _ _ _ _ (left_step links (choice_of h) items i _ c.loop-at-test.true)
    c.loop-at.invariant

pub returns : goal.returns
returns c =
    let h = ordered_history c.args.versions.now in
    let links = choice_links h (event_at h c.args.event) in
    all_added ends c.loop-at.links.items _ _
    (left_end links (choice_of h) c.as_slice-at-items.result.now c.loop-at.at-index c.loop-at-test.false) c.loop-at.invariant
