-- The writes that installed the versions of the order lines.
use Rattle.std.proofs.Common.{◌≡◌, ℕ, suc, ◌<◌, ◌≤◌, false, List, [], ◌∷◌, Option, Some, None, is_some, arith, length, map, option_map, slice_get, refl, sym, ◌∙◌, ap}
use Rattle.std.specs.Prelude.{option_and_then}
use Rattle.std.proofs.lemmas.Simd.{map-map}
use Rattle.std.proofs.lemmas.Option.{slice_get-map, slice_get_past}
use Rattle.adya_values.specs.Meaning.Histories.{Entry, Event, History, Order}
use Rattle.adya_values.specs.Meaning.Events.{last_write, shown}
use Rattle.adya_keys.specs.Machinery.Indices.{indices_in}
use Rattle.adya_terms.specs.Machinery.Tables.{Own}
use Rattle.adya_terms.specs.declared.checked.Checked.{Checked}
use Rattle.adya_terms.specs.declared.line_places.LinePlaces.{LinePlaces}
use Rattle.adya_terms.specs.Clauses.Checked.{checked_history, installed_at}
use Rattle.adya_terms.specs.Machinery.Tables.{own, written_at}
use Rattle.adya_terms.specs.Machinery.Places.{held, places_in, AreInstalled, AreWrites}
use Rattle.lemmas.proofs.Steps.{turn_below}

-- what stands at an index of two lists that agree
both_at : {A B C : Type 0} (f : A → C) (g : B → C) (xs : List A) (ys : List B) (i : ℕ) → map f xs ≡ map g ys
    → option_map f (slice_get xs i) ≡ option_map g (slice_get ys i)
both_at f g xs ys i e = sym (slice_get-map f xs i) ∙ (ap (λ zs. slice_get zs i) e ∙ slice_get-map g ys i)

-- functions that agree map a list alike
map_alike : {X Y : Type 0} (f g : X → Y) → ((x : X) → f x ≡ g x) → (xs : List X) → map f xs ≡ map g xs
map_alike f g same [] = refl
map_alike f g same (x ∷ xs) = ap (λ y. y ∷ map f xs) (same x) ∙ ap (λ ys. g x ∷ ys) (map_alike f g same xs)

-- lines of the indices of last writes are lines of the indices of what was installed
pub installed_if_last : (last : Own → Option ℕ) (all : List Event)
    → ((t : ℕ) (k : List ℕ) → written_at all (last (own t k)) ≡ last_write t k all)
    → (x : LinePlaces) (os : List Order) → AreWrites last x os → AreInstalled all x os
installed_if_last last all last_is x os ws = record {
  count = ws.count;
  same = λ line o e.
      sym (map-map (written_at all) held (places_in x line)) ∙
      (ap (map (written_at all)) (ws.same line o e) ∙
      (map-map (written_at all) (λ t. last (own t o.key)) o.writers ∙ map_alike _ _ (λ t. last_is t o.key) o.writers));
}

joined : {X Y : Type 0} (f : X → Option Y) (o : Option X) → option_and_then f o ≡ option_and_then (λ y. y) (option_map f o)
joined f None = refl
joined f (Some x) = refl

module _ (all : List Event) where
  abbrev wrote : ℕ → Option Entry
  wrote at = written_at all (held at)

  -- what a place holds is looked up in the events
  looked_up : (o : Option ℕ) → written_at all (option_and_then held o) ≡ option_and_then wrote o
  looked_up None = refl
  looked_up (Some n) = refl

  -- what the writer at the place wrote last of the line's key
  abbrev pub wrote_last : ℕ → Order → Option Entry
  wrote_last place o = option_and_then (λ t. last_write t o.key all) (slice_get o.writers place)

  -- the event at the index that the line has for a place wrote it
  pub installs : (x : LinePlaces) (os : List Order) (line place : ℕ) (o : Order) → AreInstalled all x os → slice_get os line ≡ Some o
      → (at : Option ℕ) → at ≡ option_and_then held (slice_get (places_in x line) place) → written_at all at ≡ wrote_last place o
  installs x os line place o are e at found =
      let ws = places_in x line in
      let last : ℕ → Option Entry = λ t. last_write t o.key all in
      ap (written_at all) found ∙ (looked_up (slice_get ws place) ∙
      (joined wrote (slice_get ws place) ∙
      (ap (option_and_then (λ y. y)) (both_at wrote last ws o.writers place (are.same line o e)) ∙
      sym (joined last (slice_get o.writers place)))))

module _ (x : Checked) (line place : ℕ) where
  abbrev os : List Order
  os = (checked_history x).orders

  abbrev all : List Event
  all = (checked_history x).events

  pub at_place : line < length os → (at : Option ℕ) → at ≡ option_and_then held (slice_get (places_in x.lines line) place)
      → written_at all at ≡ installed_at (checked_history x) line place
  at_place less at found =
      let o = turn_below os line less in
      installs all x.lines os line place o.0 x.written o.1.found at found ∙ ap (option_and_then (wrote_last all place)) (sym o.1.found)

-- there is no such line
pub none_installed : (h : History) (line place n : ℕ) → n ≡ length h.orders → n ≤ line → false ≡ is_some (shown (installed_at h line place))
none_installed h line place n count past =
    let at : Option Order → Option Entry = λ o. option_and_then (λ (p : Order). option_and_then (λ t. last_write t p.key h.events) (slice_get p.writers place)) o in
    sym (ap (λ o. is_some (shown (at o))) (slice_get_past h.orders line (omega (arith, count, past))))

pub line_starts : (x : Checked) (line n : ℕ) → n ≡ length (checked_history x).orders → line < n → suc line < length (indices_in x.lines.starts)
line_starts x line n count less = let starts = x.written.count in omega (arith, starts, count, less)
