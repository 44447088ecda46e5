use Rattle.std.proofs.Common.{◌<◌, ◌+◌, ◌++◌, List, Vec, Global, map, drop, filter, flat_map, sym, ◌∙◌, ap, subst, ◌≤◌, falls, refl}
use Rattle.std.proofs.lemmas.List.{drop_all}
use Rattle.std.proofs.lemmas.Result.{IfOk-from_err}
use Rattle.adya_values.specs.Meaning.Histories.{Event}
use Rattle.adya_values.specs.Meaning.Events.{txn_of, is_committed}
use Rattle.digraph.specs.declared.arc.Arc.{Arc}
use Rattle.adya_dsg.specs.Machinery.VersionOrders.{ordered_history}
use Rattle.adya_dsg.specs.Machinery.Arcs.{ends}
use Rattle.adya_dsg.specs.Machinery.Choices.{event_at}
use Rattle.adya_dsg.specs.Machinery.Links.{event_links}
use Rattle.adya_dsg.proofs.EventsAt.{found_at}
use Rattle.adya_dsg.proofs.FlatMaps.{from_kept, from_left_out, added_front, all_added}
use Rattle.adya_dsg.proofs.links.add_event_arcs.Goals as goal
use Rattle.adya_dsg.proofs.links.add_event_arcs.Goals.{then-is_committed+in_ok-push_event_links, else-is_committed}

pub loop-event-preserved : goal.loop-event-preserved
loop-event-preserved c =
    let h = ordered_history c.args.versions.now in
    let i = c.loop-event.event in
    let e = event_at h i in
    let found = found_at h.events i (subst (λ n. i < n) c.event_count-event-end.ensures c.loop-event-test.true) in
    let keep = λ (x : Event). is_committed h.events (txn_of x) in
    let here = flat_map (event_links h) (filter keep (drop i h.events)) in
    let rest = flat_map (event_links h) (filter keep (drop (i + 1) h.events)) in
    let done = c.loop-event.arcs.items in
    elim c.if-is_committed.branch [
      | then-is_committed+in_ok-push_event_links w ↦
          ap (λ (v : Vec Arc Global). v.items ++ map ends rest) w.arcs-is ∙
          (ap (λ (zs : List Arc). zs ++ map ends rest) w.in_ok-push_event_links.ensures ∙
          added_front ends done _ here (event_links h e) rest
          (from_kept (event_links h) h.events i e found keep (sym c.is_committed.ensures ∙ w.if-is_committed.true))
          c.loop-event.invariant)
      | else-is_committed w ↦
          ap (λ (v : Vec Arc Global). v.items ++ map ends rest) w.arcs-is ∙
          (ap (λ es. done ++ map ends es)
          (sym (from_left_out (event_links h) h.events i e found keep (sym c.is_committed.ensures ∙ w.if-is_committed.false))) ∙
          c.loop-event.invariant)
    ]

pub of-requires : goal.of-requires
of-requires c = tt

pub returns-in_err-selector : goal.returns-in_err-selector
returns-in_err-selector c = IfOk-from_err c.from_residual.result _ c.from_residual.ensures.0

pub event_count-event-end-requires : goal.event_count-event-end-requires
event_count-event-end-requires c = tt

pub loop-event-init : goal.loop-event-init
loop-event-init c = refl

pub is_committed-requires : goal.is_committed-requires
is_committed-requires c = subst (λ n. c.loop-event.event < n) c.event_count-event-end.ensures c.loop-event-test.true

pub push_event_links-requires : goal.push_event_links-requires
push_event_links-requires c = subst (λ n. c.loop-event.event < n) c.event_count-event-end.ensures c.loop-event-test.true

pub returns-in_err-push_event_links : goal.returns-in_err-push_event_links
returns-in_err-push_event_links c = IfOk-from_err c.from_residual-in_err-push_event_links.result _ c.from_residual-in_err-push_event_links.ensures.0

pub loop-event-smaller : goal.loop-event-smaller
loop-event-smaller c = falls _ _ c.loop-event-test.true

pub returns : goal.returns
returns c =
    let h = ordered_history c.args.versions.now in
    let i = c.loop-event.event in
    let keep = λ (x : Event). is_committed h.events (txn_of x) in
    all_added ends c.loop-event.arcs.items _ _
    (ap (λ es. flat_map (event_links h) (filter keep es))
    (drop_all i h.events (subst (λ n. n ≤ i) c.event_count-event-end.ensures c.loop-event-test.false)))
    c.loop-event.invariant
