use Rattle.std.proofs.Common.{◌≡◌, ◌<◌, ◌∙◌, Bor, Some, length, option_and_then, option_map, refl, sym, ap, subst}
use Rattle.std.proofs.lemmas.Result.{IfOk-from_err}
use Rattle.std.specs.HashMap.{get}
use Rattle.adya_values.specs.declared.events.Events.{Events}
use Rattle.adya_values.specs.Meaning.Histories.{Entry}
use Rattle.adya_values.specs.Mirror.Events.{events_of}
use Rattle.adya_values.specs.Mirror.Numbers.{keys_of, version_in}
use Rattle.adya_keys.specs.Mirror.{number_in}
use Rattle.adya_terms.specs.Machinery.OwnWrites.{place_of}
use Rattle.adya_terms.specs.Machinery.Tables.{own, written_at}
use Rattle.adya_terms.specs.Machinery.Telling.{keys_in, numbered_eq, replaced_in, told, with_number}
use Rattle.adya_terms.proofs.NumberedVersions.{put_by_key, replaced_is}
use Rattle.adya_terms.proofs.tables.Tables.put.Goals as goal

pub returns-clause-replaced : goal.returns-clause-replaced
returns-clause-replaced c r =
    let t = c.args.self.now in
    let old = c.in-Some.old in
    let place = c.in-Some-place.place in
    let events : c.put.new.self.events.now ≡ t.writes.events.now = ap (λ (e : Bor Events). e.now) c.put.ensures.events in
    let within = subst (λ (es : Events). old.key < length (keys_of es)) events c.in-Some.ensures.there in
    let wrote = subst (λ (es : Events). Some (version_in (keys_of es) old) ≡ option_map (λ (w : Entry). w.version) (written_at (events_of es) c.last_place-place.result)) events c.in-Some.ensures.version in
    let v = version_in (keys_in t) c.args.new in
    let p = place_of t.writes (own v.txn v.key) in
    let at : c.last_place-place.result ≡ p = c.last_place-place.ensures in
    ap (λ (es : Events). option_and_then (λ n. get numbered_eq c.insert.new.self (with_number r n)) (number_in (keys_of es) r.key)) events ∙
    (put_by_key (keys_in t) t.writes.numbered old within place (get numbered_eq t.replaced) (get numbered_eq c.insert.new.self) c.in_ok-insert.ensures.updates.0 r ∙
    sym (replaced_is (written_at (told t) p) p (replaced_in t) (version_in (keys_in t) old) place
    (subst (λ q. Some (version_in (keys_in t) old) ≡ option_map (λ (w : Entry). w.version) (written_at (told t) q)) at wrote)
    (sym at ∙ c.in-Some-place.is) r))

pub put-requires : goal.put-requires
put-requires c = c.requires

pub returns-in_err-put : goal.returns-in_err-put
returns-in_err-put c =
    let failed = c.from_residual.ensures.0 in
    record {
      last = IfOk-from_err _ _ failed;
      replaced = IfOk-from_err _ _ failed;
      ended = IfOk-from_err _ _ failed;
      events = c.put.ensures.events;
    }

pub returns-in_err-insert : goal.returns-in_err-insert
returns-in_err-insert c =
    let failed = c.from_residual-in_err-insert.ensures.0 in
    record {
      last = IfOk-from_err _ _ failed;
      replaced = IfOk-from_err _ _ failed;
      ended = IfOk-from_err _ _ failed;
      events = c.put.ensures.events;
    }

pub returns-clause-last : goal.returns-clause-last
returns-clause-last c = c.in_ok-put.ensures.last

pub returns-clause-ended : goal.returns-clause-ended
returns-clause-ended c = refl

pub returns-clause-events : goal.returns-clause-events
returns-clause-events c = c.put.ensures.events

pub returns-in_default-clause-last : goal.returns-in_default-clause-last
returns-in_default-clause-last c = c.in_ok-put.ensures.last

pub returns-in_default-clause-ended : goal.returns-in_default-clause-ended
returns-in_default-clause-ended c = refl

pub returns-in_default-clause-events : goal.returns-in_default-clause-events
returns-in_default-clause-events c = c.put.ensures.events
