use Rattle.std.proofs.Common.{◌<◌, ◌+◌, option_map, drop, filter, flat_map, sym, ◌∙◌, ap, subst, ◌≤◌, falls, refl}
use Rattle.std.proofs.lemmas.List.{drop_all}
use Rattle.std.proofs.lemmas.Result.{IfOk-from_err}
use Rattle.std.specs.List.{find}
use Rattle.adya_values.specs.Meaning.Histories.{Event}
use Rattle.adya_values.specs.Meaning.Events.{txn_of, is_committed}
use Rattle.adya_values.specs.Computing.EdgeList.{event_edges}
use Rattle.adya_dsg.specs.Machinery.VersionOrders.{ordered_history}
use Rattle.adya_dsg.specs.Mirror.{edge_of}
use Rattle.adya_dsg.specs.Machinery.Choices.{event_at}
use Rattle.adya_dsg.specs.Machinery.PartEdges.{is_backward}
use Rattle.adya_dsg.proofs.EventsAt.{found_at}
use Rattle.adya_dsg.proofs.FlatMaps.{from_kept, from_left_out, found_in_front, none_in_front}
use Rattle.adya_dsg.proofs.backward.first_read.Goals as goal
use Rattle.adya_dsg.proofs.backward.first_read.Goals.{then-is_committed+in_ok-found+in_default, else-is_committed}

pub returns-in-Some : goal.returns-in-Some
returns-in-Some c =
    let h = ordered_history c.args.versions.now in
    let i = c.loop-event.event in
    let e = event_at h i in
    let found = found_at h.events i (subst (λ n. i < n) c.event_count-event-end.ensures c.loop-event-test.true) in
    let keep = λ (x : Event). is_committed h.events (txn_of x) in
    sym (c.loop-event.invariant ∙
    found_in_front (is_backward c.args.certificate.now.txns.now)
    (flat_map (event_edges h) (filter keep (drop i h.events))) (event_edges h e)
    (flat_map (event_edges h) (filter keep (drop (i + 1) h.events))) (edge_of c.in-Some.found)
    (from_kept (event_edges h) h.events i e found keep (sym c.is_committed.ensures ∙ c.if-is_committed.true))
    (sym c.in_ok-found.ensures ∙ ap (option_map edge_of) c.in-Some.is))

pub loop-event-preserved : goal.loop-event-preserved
loop-event-preserved c =
    let h = ordered_history c.args.versions.now in
    let p = is_backward c.args.certificate.now.txns.now in
    let i = c.loop-event.event in
    let e = event_at h i in
    let found = found_at h.events i (subst (λ n. i < n) c.event_count-event-end.ensures c.loop-event-test.true) in
    let keep = λ (x : Event). is_committed h.events (txn_of x) in
    c.loop-event.invariant ∙
    elim c.if-is_committed.branch [
      | then-is_committed+in_ok-found+in_default w ↦
          none_in_front p (flat_map (event_edges h) (filter keep (drop i h.events)))
          (event_edges h e) (flat_map (event_edges h) (filter keep (drop (i + 1) h.events)))
          (from_kept (event_edges h) h.events i e found keep (sym c.is_committed.ensures ∙ w.if-is_committed.true))
          (sym w.in_ok-found.ensures ∙ ap (option_map edge_of) w.in_default.is)
      | else-is_committed w ↦
          ap (find p)
          (from_left_out (event_edges h) h.events i e found keep (sym c.is_committed.ensures ∙ w.if-is_committed.false))
    ]

pub of-requires : goal.of-requires
of-requires c = tt

pub returns-in_err-selector : goal.returns-in_err-selector
returns-in_err-selector c = IfOk-from_err c.from_residual.result _ c.from_residual.ensures.0

pub event_count-event-end-requires : goal.event_count-event-end-requires
event_count-event-end-requires c = tt

pub loop-event-init : goal.loop-event-init
loop-event-init c = refl

pub is_committed-requires : goal.is_committed-requires
is_committed-requires c = subst (λ n. c.loop-event.event < n) c.event_count-event-end.ensures c.loop-event-test.true

pub first_of_event-requires-clause-checked : goal.first_of_event-requires-clause-checked
first_of_event-requires-clause-checked c = c.requires.checked

pub first_of_event-requires-clause-writes : goal.first_of_event-requires-clause-writes
first_of_event-requires-clause-writes c = c.requires.writes

pub first_of_event-requires-clause-occurs : goal.first_of_event-requires-clause-occurs
first_of_event-requires-clause-occurs c = subst (λ n. c.loop-event.event < n) c.event_count-event-end.ensures c.loop-event-test.true

pub first_of_event-requires-clause-committed : goal.first_of_event-requires-clause-committed
first_of_event-requires-clause-committed c = sym c.is_committed.ensures ∙ c.if-is_committed.true

pub returns-in_err-found : goal.returns-in_err-found
returns-in_err-found c = IfOk-from_err c.from_residual-in_err-found.result _ c.from_residual-in_err-found.ensures.0

pub loop-event-smaller : goal.loop-event-smaller
loop-event-smaller c = falls _ _ c.loop-event-test.true

pub returns : goal.returns
returns c =
    let h = ordered_history c.args.versions.now in
    let keep = λ (x : Event). is_committed h.events (txn_of x) in
    sym (c.loop-event.invariant ∙
    ap (λ es. find (is_backward c.args.certificate.now.txns.now) (flat_map (event_edges h) (filter keep es)))
    (drop_all c.loop-event.event h.events (subst (λ n. n ≤ c.loop-event.event) c.event_count-event-end.ensures c.loop-event-test.false)))
