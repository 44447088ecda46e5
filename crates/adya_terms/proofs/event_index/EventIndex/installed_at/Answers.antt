use Rattle.std.proofs.Common.{◌≡◌, ◌<◌, ◌∙◌, ℕ, List, Some, true, length, option_map, refl, sym, ap, subst}
use Rattle.std.proofs.lemmas.Bool.{both_ways}
use Rattle.std.proofs.lemmas.Option.{none-some, same_Some}
use Rattle.adya_values.specs.declared.event.NumberedVersion.{NumberedVersion}
use Rattle.adya_values.specs.declared.event.Version.{Version}
use Rattle.adya_values.specs.declared.events.Events.{Events}
use Rattle.adya_values.specs.Meaning.Events.{is_committed}
use Rattle.adya_values.specs.Meaning.Histories.{Entry}
use Rattle.adya_keys.specs.Machinery.Within.{key_at}
use Rattle.adya_values.specs.Mirror.Events.{events_of}
use Rattle.adya_values.specs.Mirror.Numbers.{keys_of, version_in}
use Rattle.adya_keys.specs.Mirror.{number_in}
use Rattle.adya_terms.specs.declared.event_index.EventIndex.{EventIndex}
use Rattle.adya_terms.specs.Machinery.EventIndex.{events_in, indexed, keys_in, last_in}
use Rattle.adya_terms.specs.Machinery.Places.{Installs}
use Rattle.adya_terms.specs.Machinery.Tables.{own, written_at}
use Rattle.adya_terms.proofs.Places.{writes_it}
use Rattle.adya_terms.proofs.event_index.EventIndex.installed_at.Goals as goal

-- the version that the event at the index writes is the one that is installed there
module _ (x : EventIndex) (es : Events) (same : es ≡ events_in x) (at : ℕ) (v : NumberedVersion)
    (wrote : Some (version_in (keys_of es) v) ≡ option_map (λ (w : Entry). w.version) (written_at (events_of es) (Some at)))
    (k : List ℕ) (t : ℕ) (i : Installs (indexed x) (last_in x) k t at) where
  version_is : (key_at (keys_in x) v.key ≡ k) × (v.txn ≡ t)
  version_is =
      let w = writes_it _ _ _ _ (indexed x) x.tell t k at i.last_is _ refl in
      let is : version_in (keys_in x) v ≡ w.0.version =
      same_Some _ _ (subst (λ e. Some (version_in (keys_of e) v) ≡ option_map (λ (y : Entry). y.version) (written_at (events_of e) (Some at))) same wrote ∙
      ap (option_map (λ (y : Entry). y.version)) w.1) in
      (ap (λ (r : Version). r.key) is ∙ w.3, ap (λ (r : Version). r.txn) is ∙ w.2)

  committed_is : is_committed (indexed x) v.txn ≡ true
  committed_is = ap (is_committed (indexed x)) version_is.1 ∙ i.committed

  last_is : last_in x (own v.txn (key_at (keys_in x) v.key)) ≡ Some at
  last_is = ap (λ u. last_in x (own u (key_at (keys_in x) v.key))) version_is.1 ∙ (ap (λ j. last_in x (own t j)) version_is.0 ∙ i.last_is)

-- the number of the key of a version that is written
numbered : (x : EventIndex) (es : Events) → es ≡ events_in x → (n : ℕ) → n < length (keys_of es) → Some n ≡ number_in (keys_in x) (key_at (keys_in x) n)
numbered x es same n within = sym (x.tables.writes.numbered n (subst (λ e. n < length (keys_of e)) same within))

pub returns-then-not-has_committed-clause-none : goal.returns-then-not-has_committed-clause-none
returns-then-not-has_committed-clause-none c k t i =
    let is = committed_is c.args.self.now c.events.result.now c.events.ensures c.args.at c.in-Some.version c.in-Some.ensures.version k t i in
    both_ways _ (sym c.has_committed.ensures ∙ c.if-not-has_committed.true) is

pub returns-in_default-last_place-clause-none : goal.returns-in_default-last_place-clause-none
returns-in_default-last_place-clause-none c k t i =
    let x = c.args.self.now in
    let v = c.in-Some.version in
    let is = last_is x c.events.result.now c.events.ensures c.args.at v c.in-Some.ensures.version k t i in
    let n = numbered x c.events.result.now c.events.ensures v.key c.in-Some.ensures.there in
    none-some c.args.at (c.in_default-last_place.ensures (key_at (keys_in x) v.key) n ∙ is)

pub returns-then-last-at-clause-none : goal.returns-then-last-at-clause-none
returns-then-last-at-clause-none c k t i =
    let x = c.args.self.now in
    let v = c.in-Some.version in
    let is = last_is x c.events.result.now c.events.ensures c.args.at v c.in-Some.ensures.version k t i in
    let n = numbered x c.events.result.now c.events.ensures v.key c.in-Some.ensures.there in
    c.if-last-at.true (same_Some _ _ (c.in-Some-last_place.ensures (key_at (keys_in x) v.key) n ∙ is))
