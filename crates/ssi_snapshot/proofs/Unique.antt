-- Lists of entries by rising key that have the same of each key are the same.
use Rattle.std.proofs.Common.{◌≡◌, ℕ, true, if◌then◌else◌, List, [], ◌∷◌, Some, None, refl, ◌∙◌, ap, sym, subst, inl, inr}
use Rattle.std.specs.Ordering.{nat_cmp, is_lt, ordering_reverse}
use Rattle.std.specs.declared.cmp.Ordering.TheVariants.{Less, Equal, Greater}
use Rattle.std.specs.Cmp.Lexicographic.{slice_cmp, nat_list_cmp_total}
use Rattle.std.proofs.lemmas.Bool.{and_parts, and_from, cases_Bool}
use Rattle.std.proofs.lemmas.Option.{same_Some, none-some}
use Rattle.lemmas.proofs.Orderings.{bytes_eq-same, bytes_eq-itself, bytes_eq-other, bytes_lt-trans, bytes_lt-apart, tied_bytes}
use Rattle.adya_keys.specs.Meaning.Keys.{key_eq, key_lt, keys_rise}
use Rattle.adya_values.specs.Meaning.Histories.{Entry}
use Rattle.adya_values.specs.Meaning.Events.{listed}
use Rattle.adya_keys.proofs.Keys.{keys_rise-tail}
use Rattle.ssi_snapshot.specs.Clauses.Listings.{keys}

pub skip : (k j : List ℕ) (ws : List Entry) → key_lt k j ≡ true → keys_rise (j ∷ keys ws) ≡ true → keys_rise (k ∷ keys ws) ≡ true
skip k j [] lt rise = refl
skip k j (w ∷ ws) lt rise =
    let r = and_parts (key_lt j w.version.key) (keys_rise (keys (w ∷ ws))) rise in
    and_from (key_lt k w.version.key) (keys_rise (keys (w ∷ ws))) (bytes_lt-trans k j w.version.key lt r.0) r.1

pub below : (k : List ℕ) (ws : List Entry) → keys_rise (k ∷ keys ws) ≡ true → listed k ws ≡ None
below k [] rise = refl
below k (w ∷ ws) rise =
    let r = and_parts (key_lt k w.version.key) (keys_rise (keys (w ∷ ws))) rise in
    ap (λ b. if b then Some w else listed k ws) (bytes_eq-other w.version.key k (λ s. bytes_lt-apart k w.version.key r.0 (sym s)))
    ∙ below k ws (skip k w.version.key ws r.0 r.1)

first : (w : Entry) (ws : List Entry) → listed w.version.key (w ∷ ws) ≡ Some w
first w ws = ap (λ b. if b then Some w else listed w.version.key ws) (bytes_eq-itself w.version.key)

-- the first of the one is not below all of the other
not_below : (v w : Entry) (vs ws : List Entry) → key_lt v.version.key w.version.key ≡ true → keys_rise (keys (w ∷ ws)) ≡ true
    → listed v.version.key (v ∷ vs) ≡ listed v.version.key (w ∷ ws) → ⊥
not_below v w vs ws lt rise same =
    none-some v (sym (below v.version.key (w ∷ ws) (and_from (key_lt v.version.key w.version.key) (keys_rise (keys (w ∷ ws))) lt rise)) ∙ sym same ∙ first v vs)

rest_same : (v w : Entry) (vs ws : List Entry) → v.version.key ≡ w.version.key → keys_rise (keys (v ∷ vs)) ≡ true → keys_rise (keys (w ∷ ws)) ≡ true
    → ((k : List ℕ) → listed k (v ∷ vs) ≡ listed k (w ∷ ws)) → (k : List ℕ) → listed k vs ≡ listed k ws
rest_same v w vs ws same rv rw same_all k =
    elim (cases_Bool (key_eq v.version.key k)) [
      | inl t ↦
          let here : v.version.key ≡ k = bytes_eq-same v.version.key k t in
          subst (λ j. listed j vs ≡ None) here (below v.version.key vs rv) ∙ sym (subst (λ j. listed j ws ≡ None) (sym same ∙ here) (below w.version.key ws rw))
      | inr f ↦
          ap (λ b. if b then Some v else listed k vs) (sym f) ∙ same_all k ∙ ap (λ b. if b then Some w else listed k ws) (ap (λ j. key_eq j k) (sym same) ∙ f)
    ]

pub same_listing : (vs ws : List Entry) → keys_rise (keys vs) ≡ true → keys_rise (keys ws) ≡ true → ((k : List ℕ) → listed k vs ≡ listed k ws) → vs ≡ ws
same_listing [] [] rv rw same = refl
same_listing [] (w ∷ ws) rv rw same = absurd (none-some w (same w.version.key ∙ first w ws))
same_listing (v ∷ vs) [] rv rw same = absurd (none-some v (sym (same v.version.key) ∙ first v vs))
same_listing (v ∷ vs) (w ∷ ws) rv rw same =
    elim (slice_cmp nat_cmp v.version.key w.version.key) as (λ o. slice_cmp nat_cmp v.version.key w.version.key ≡ o → v ∷ vs ≡ w ∷ ws) [
      | Less ↦ λ e. absurd (not_below v w vs ws (ap is_lt e) rw (same v.version.key))
      | Equal ↦ λ e.
          let keys_same : v.version.key ≡ w.version.key = tied_bytes v.version.key w.version.key e in
          let heads : v ≡ w = same_Some v w (sym (first v vs) ∙ same v.version.key ∙ ap (λ k. listed k (w ∷ ws)) keys_same ∙ first w ws) in
          ap (λ x. x ∷ vs) heads ∙ ap (λ xs. w ∷ xs) (same_listing vs ws (keys_rise-tail v.version.key (keys vs) rv) (keys_rise-tail w.version.key (keys ws) rw) (rest_same v w vs ws keys_same rv rw same))
      | Greater ↦ λ e. absurd (not_below w v ws vs (ap is_lt (nat_list_cmp_total.antisymm w.version.key v.version.key ∙ ap ordering_reverse e)) rv (sym (same w.version.key)))
    ] refl
