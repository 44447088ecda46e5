-- Looking up each key gives the same as the list of pairs, if the keys rise.
use Rattle.std.proofs.Common.{◌≡◌, ℕ, true, ◌↔◌, List, map, Option, Some, None, refl, sym, ◌∙◌, ap, subst, inl, inr}
use Rattle.std.specs.List.{All, Contains}
use Rattle.std.proofs.lemmas.Option.{none-some, same_Some}
use Rattle.std.proofs.lemmas.List.Elements.{All-contains}
use Rattle.adya_keys.specs.Meaning.Keys.{lies_in, keys_rise}
use Rattle.adya_values.specs.Meaning.Histories.{Content, Entry, FinalPair}
use Rattle.adya_values.specs.Meaning.Events.{listed, visible, shown}
use Rattle.adya_values.specs.Clauses.Rules.{final_value}
use Rattle.adya_values.specs.Meaning.Serial.{pair, visible_pair_of, visible_pairs}
use Rattle.adya_values.proofs.KeyLookups.{listed_from, final_cases, final_found, listed_found}
use Rattle.lemmas.proofs.Filters.{Contains-filter_map, filter_map-source}

-- a final value comes from a pair
final_pair : (fs : List FinalPair) (k v : List ℕ) → final_value fs k ≡ Some v → Contains fs (pair k v)
final_pair fs k v e =
    elim (final_cases fs k) [
      | inl f ↦
          let value = same_Some f.0.value v (sym f.3 ∙ e) in
          subst (Contains fs) (ap (λ j. pair j f.0.value) f.2 ∙ ap (pair k) value) f.1
      | inr none ↦ absurd (none-some v (sym none.0 ∙ e))
    ]

pub finals_are : (fs : List FinalPair) → keys_rise (map (λ x. x.key) fs) ≡ true → (k v : List ℕ)
    → (final_value fs k ≡ Some v) ↔ Contains fs (pair k v)
finals_are fs r k v = (final_pair fs k v, final_found fs (pair k v) r)

pub visible_pair : (k v : List ℕ) (c : Content) → visible c ≡ Some v → visible_pair_of k (visible c) ≡ Some (pair k v)
visible_pair k v c e = ap (visible_pair_of k) e

pub visible_pair-parts : (j k v : List ℕ) (o : Option (List ℕ)) → visible_pair_of j o ≡ Some (pair k v)
    → (j ≡ k) × (o ≡ Some v)
visible_pair-parts j k v None e = absurd (none-some (pair k v) e)
visible_pair-parts j k v (Some u) e =
    let same = same_Some (pair j u) (pair k v) e in
    (ap (λ x. x.key) same, ap (λ x. Some x.value) same)

pub shown_pair : (es : List Entry) (k v : List ℕ) (o : Option Entry) → listed k es ≡ o → shown o ≡ Some v
    → Contains (visible_pairs es) (pair k v)
shown_pair es k v None e s = absurd (none-some v s)
shown_pair es k v (Some w) e s =
    let at = listed_from k es w e in
    Contains-filter_map (λ x. visible_pair_of x.version.key (visible x.content)) es w (pair k v) at.0
    (ap (λ j. visible_pair_of j (visible w.content)) at.1 ∙ visible_pair k v w.content s)

-- a map that agrees with a scan's list key by key has exactly its visible pairs in the range
pub pairs_from_keys : (low high : List ℕ) (es : List Entry) (m : List ℕ → Option (List ℕ))
    → keys_rise (map (λ w. w.version.key) es) ≡ true
    → All (λ w. lies_in low high w.version.key ≡ true) es
    → ((k : List ℕ) → lies_in low high k ≡ true → m k ≡ shown (listed k es))
    → (k v : List ℕ) → ((lies_in low high k ≡ true) × (m k ≡ Some v)) ↔ Contains (visible_pairs es) (pair k v)
pairs_from_keys low high es m rise inside holds k v = (there, back)
  where
    there : (lies_in low high k ≡ true) × (m k ≡ Some v) → Contains (visible_pairs es) (pair k v)
    there p = shown_pair es k v (listed k es) refl (sym (holds k p.0) ∙ p.1)

    back : Contains (visible_pairs es) (pair k v) → (lies_in low high k ≡ true) × (m k ≡ Some v)
    back c =
        let at = filter_map-source (λ x. visible_pair_of x.version.key (visible x.content)) es (pair k v) c in
        let w : Entry = at.0 in
        let parts = visible_pair-parts w.version.key k v (visible w.content) at.2 in
        let in_range = subst (λ j. lies_in low high j ≡ true) parts.0
        (All-contains (λ x. lies_in low high x.version.key ≡ true) es w inside at.1) in
        let one = subst (λ j. listed j es ≡ Some w) parts.0 (listed_found es w rise at.1) in
        (in_range, holds k in_range ∙ (ap shown one ∙ parts.1))
