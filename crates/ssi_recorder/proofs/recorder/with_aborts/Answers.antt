use Rattle.std.proofs.Common.{◌≡◌, ◌∙◌, ◌++◌, ◌∷◌, [], ◌+◌, ◌-◌, ap, sym, arith, append_assoc, length, map, take}
use Rattle.std.proofs.lemmas.List.{map-append, take_more}
use Rattle.adya_values.specs.Meaning.Histories.{Abort}
use Rattle.adya_values.specs.Mirror.Events.{events_of}
use Rattle.ssi_recorder.proofs.recorder.with_aborts.Goals as goal

pub active-preserved : goal.active-preserved
active-preserved c =
    let ts = c.args.active.now in
    let i = c.active.txn-index in
    let t = c.txn-item.result in
    let more : take (i + 1) ts ≡ take i ts ++ t ∷ [] =
    take_more ts i t c.active-test.true ∙ ap (λ y. take i ts ++ y ∷ []) (sym c.txn-item.is) in
    record {
      events = c.abort.ensures.events ∙
          (ap (λ es. es ++ Abort t ∷ []) c.active.invariant.events ∙
          (append_assoc (events_of c.args.events) (map Abort (take i ts)) (Abort t ∷ []) ∙
          ap (λ es. events_of c.args.events ++ es) (sym (ap (map Abort) more ∙ map-append Abort (take i ts) (t ∷ [])))));
      room = c.abort.ensures.rows (length ts - (i + 1)) (omega (arith, c.active.invariant.room, c.active-test.true));
    }
