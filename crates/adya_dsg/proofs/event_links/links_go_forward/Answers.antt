use Rattle.std.proofs.Common.{◌<◌, List, All, map, length, flat_map, falls, sym, ◌∙◌, ap, subst}
use Rattle.std.specs.List.{list_all}
use Rattle.std.proofs.lemmas.Result.{IfOk-from_err}
use Rattle.adya_values.specs.Computing.Certificates.{is_forward}
use Rattle.adya_dsg.specs.declared.selection.Selection.{Selection}
use Rattle.adya_dsg.specs.Machinery.VersionOrders.{ordered_history}
use Rattle.adya_dsg.specs.Machinery.Choices.{choice_of, event_at}
use Rattle.adya_dsg.specs.Machinery.Links.{choice_links}
use Rattle.adya_dsg.proofs.FlatMaps.{left_step, left_end, passes_in_front, fails_in_front}
use Rattle.adya_dsg.proofs.event_links.links_go_forward.Goals as goal

pub select-requires : goal.select-requires
select-requires c = c.requires

pub returns-in_err-select : goal.returns-in_err-select
returns-in_err-select c = IfOk-from_err c.from_residual.result _ c.from_residual.ensures.0

pub loop-at-init : goal.loop-at-init
loop-at-init c =
    let h = ordered_history c.args.versions.now in
    let test = is_forward c.args.certificate.now.txns.now in
    ap (λ cs. list_all test (flat_map (choice_links h (event_at h c.args.event)) cs))
    (sym c.in_ok-select.ensures.choices ∙ ap (map (choice_of h)) (sym c.as_slice-at-items.ensures.value))

pub bounds-at-items-at-index : goal.bounds-at-items-at-index
bounds-at-items-at-index c = c.loop-at-test.true

pub links_at_go_forward-requires-clause-there : goal.links_at_go_forward-requires-clause-there
links_at_go_forward-requires-clause-there c = c.requires

pub links_at_go_forward-requires-clause-within : goal.links_at_go_forward-requires-clause-within
links_at_go_forward-requires-clause-within c =
    let n = length (ordered_history c.args.versions.now).orders in
    subst (λ (ss : List Selection). All (λ s. s.line < n) ss) (sym c.as_slice-at-items.ensures.value)
    c.in_ok-select.ensures.within c.loop-at.at-index _ c.loop-at-test.true

pub returns-then-not-links_at_go_forward : goal.returns-then-not-links_at_go_forward
returns-then-not-links_at_go_forward c =
    let h = ordered_history c.args.versions.now in
    let links = choice_links h (event_at h c.args.event) in
    sym (c.loop-at.invariant ∙
    fails_in_front (is_forward c.args.certificate.now.txns.now) _ _ _
    (left_step links (choice_of h) c.as_slice-at-items.result.now c.loop-at.at-index _ c.loop-at-test.true)
    (sym c.links_at_go_forward.ensures ∙ c.if-not-links_at_go_forward.true))

pub loop-at-smaller : goal.loop-at-smaller
loop-at-smaller c = falls _ _ c.loop-at-test.true

pub loop-at-preserved : goal.loop-at-preserved
loop-at-preserved c =
    let h = ordered_history c.args.versions.now in
    let links = choice_links h (event_at h c.args.event) in
    c.loop-at.invariant ∙
    passes_in_front (is_forward c.args.certificate.now.txns.now) _ _ _
    (left_step links (choice_of h) c.as_slice-at-items.result.now c.loop-at.at-index _ c.loop-at-test.true)
    (sym c.links_at_go_forward.ensures ∙ c.if-not-links_at_go_forward.false)

pub returns : goal.returns
returns c =
    let h = ordered_history c.args.versions.now in
    let links = choice_links h (event_at h c.args.event) in
    sym (c.loop-at.invariant ∙
    ap (list_all (is_forward c.args.certificate.now.txns.now))
    (left_end links (choice_of h) c.as_slice-at-items.result.now c.loop-at.at-index c.loop-at-test.false))
