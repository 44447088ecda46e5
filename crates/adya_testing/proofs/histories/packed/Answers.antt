use Rattle.std.proofs.Common.{◌≡◌, ◌∙◌, ◌++◌, ◌∷◌, [], ◌+◌, ap, map, sym, take}
use Rattle.std.proofs.lemmas.List.{map-append, take_more}
use Rattle.adya_values.specs.Mirror.Events.{event_of}
use Rattle.adya_testing.proofs.histories.packed.Goals as goal

pub loop-event-preserved : goal.loop-event-preserved
loop-event-preserved c =
    let es = c.args.events.now in
    let i = c.loop-event.event-index in
    let e = c.event-item.result in
    let more : take (i + 1) es ≡ take i es ++ e ∷ [] = take_more es i e c.loop-event-test.true ∙ ap (λ y. take i es ++ y ∷ []) (sym c.event-item.is) in
    c.in_ok-push_owned.ensures.ok ∙ (ap (λ xs. xs ++ event_of e ∷ []) c.loop-event.invariant ∙ sym (ap (map event_of) more ∙ map-append event_of (take i es) (e ∷ [])))
