-- Lists made from rising keys.
use Rattle.std.specs.List.{Contains, cons_option, filter_map}
use Rattle.std.proofs.Common.{List, None, Option, Some, [], ap, arith, inl, inr, map, refl, subst, suc, sym, true, zero, ℕ, ◌∙◌, ◌∷◌, ◌≡◌, ◌⊎◌}
use Rattle.std.proofs.lemmas.Bool.{both_ways, cases_Bool, cond-false, cond-true}
use Rattle.lemmas.proofs.Filters.{filter_map-source}
use Rattle.lemmas.proofs.Members.{map-source, none_contained}
use Rattle.lemmas.proofs.Orderings.{bytes_eq-from, bytes_eq-same}
use Rattle.adya_values.specs.Meaning.Events.{listed}
use Rattle.adya_values.specs.Meaning.Histories.{Entry}
use Rattle.adya_keys.specs.Meaning.Keys.{key_eq, key_lt, keys_rise}
use Rattle.adya_keys.proofs.Keys.{keys_rise-tail}
use Rattle.adya_values.proofs.InsertedKeys.{head_below, rises_with_head}

rises_step : {Y : Type 0} (key : Y → List ℕ) (f : List ℕ → Option Y)
    → ((j : List ℕ) (y : Y) → f j ≡ Some y → key y ≡ j) → (j : List ℕ) (js : List (List ℕ))
    → keys_rise (j ∷ js) ≡ true → keys_rise (map key (filter_map f js)) ≡ true → (l : Option Y) → f j ≡ l
    → keys_rise (map key (cons_option l (filter_map f js))) ≡ true
rises_step key f own j js r rest None e = rest
rises_step key f own j js r rest (Some y) e =
    rises_with_head (key y) (map key (filter_map f js)) (λ n c.
    let z = map-source key (filter_map f js) n c in
    let x = filter_map-source f js z.0 z.1 in
    let below = head_below j js x.0 r x.1 in
    subst (λ a. key_lt (key y) a ≡ true) z.2
    (subst (λ a. key_lt (key y) a ≡ true) (sym (own x.0 z.0 x.2))
    (subst (λ a. key_lt a x.0 ≡ true) (sym (own j y e)) below))) rest

-- what is made of rising keys, each of its own key, rises
pub made_rises : {Y : Type 0} (key : Y → List ℕ) (f : List ℕ → Option Y)
    → ((j : List ℕ) (y : Y) → f j ≡ Some y → key y ≡ j) → (js : List (List ℕ)) → keys_rise js ≡ true
    → keys_rise (map key (filter_map f js)) ≡ true
made_rises key f own [] r = refl
made_rises key f own (j ∷ js) r = rises_step key f own j js r (made_rises key f own js (keys_rise-tail j js r))
    (f j) refl

-- what a list made from keys lists of a key
listed_step : (f : List ℕ → Option Entry) (j k : List ℕ) (es : List Entry) (l : Option Entry) → f j ≡ l
    → ((w : Entry) → f j ≡ Some w → w.version.key ≡ j) → ((j ≡ k → f k ≡ None) → listed k es ≡ f k)
    → listed k (cons_option l es) ≡ f k
listed_step f j k es None e key rest = rest (λ s. ap f (sym s) ∙ e)
listed_step f j k es (Some w) e key rest =
    let here = key w e in
    elim (cases_Bool (key_eq w.version.key k)) [
      | inl same ↦ cond-true {A = Option Entry} (key_eq w.version.key k) (Some w) (listed k es) same
          ∙ (sym e ∙ ap f (sym here ∙ bytes_eq-same _ _ same))
      | inr other ↦ cond-false {A = Option Entry} (key_eq w.version.key k) (Some w) (listed k es) other
          ∙ rest (λ s. absurd (both_ways _ other (bytes_eq-from w.version.key k (here ∙ s))))
    ]

pub listed_made : (f : List ℕ → Option Entry) → ((j : List ℕ) (w : Entry) → f j ≡ Some w → w.version.key ≡ j)
    → (js : List (List ℕ)) (k : List ℕ) → (Contains js k ⊎ (f k ≡ None)) → listed k (filter_map f js) ≡ f k
listed_made f key [] k (inl c) = absurd (none_contained k c)
listed_made f key [] k (inr e) = sym e
listed_made f key (j ∷ js) k (inr e) = listed_step f j k _ (f j) refl (key j) (λ h. listed_made f key js k (inr e))
listed_made f key (j ∷ js) k (inl (zero, l, s)) = listed_step f j k _ (f j) refl (key j)
    (λ h. listed_made f key js k (inr (h s)))
listed_made f key (j ∷ js) k (inl (suc i, l, s)) = listed_step f j k _ (f j) refl (key j)
    (λ h. listed_made f key js k (inl (i, omega (arith, l), s)))
