-- A list whose keys rise has a key at the place after the lesser ones, or nowhere.
use Rattle.std.proofs.Common.{◌≡◌, ℕ, ◌<◌, Bool, true, false, List, get_or, map, Some, slice_get, option_map, sym, ◌∙◌, ap, inl, inr, arith}
use Rattle.std.specs.List.{list_any}
use Rattle.std.specs.Bool.{OnTrue, OnFalse}
use Rattle.std.proofs.lemmas.Bool.{both_ways, cases_lt, false_from_ne_true}
use Rattle.std.proofs.lemmas.Option.{get_or_from_slice_get, slice_get-map, slice_get_within}
use Rattle.adya_keys.specs.Meaning.Keys.{key_eq, key_lt, keys_rise}
use Rattle.adya_keys.specs.Mirror.{IsBelow}
use Rattle.adya_keys.proofs.Keys.{rises_pairs}
use Rattle.lemmas.proofs.Members.{Contains-slice_get, slice_get-contained}
use Rattle.lemmas.proofs.Orderings.{bytes_eq-from, bytes_eq-same, bytes_lt-apart}
use Rattle.lemmas.proofs.Steps.{turn_below}
use Rattle.lemmas.proofs.Tests.{list_any-source, list_any_when}
use Rattle.adya_terms.proofs.Found.{has_key}

module _ {X : Type 0} (key : X → List ℕ) (xs : List X) (k : List ℕ) where
  abbrev is_there : Bool
  is_there = list_any (λ x. key_eq (key x) k) xs

  pub found_at : (i : ℕ) → option_map key (slice_get xs i) ≡ Some k → is_there ≡ true
  found_at i e =
      let x = has_key key (slice_get xs i) k e in
      list_any_when (λ y. key_eq (key y) k) xs x.0 (Contains-slice_get xs i x.0 x.1) (bytes_eq-from (key x.0) k x.2)

  module _ (rise : keys_rise (map key xs) ≡ true) (n : ℕ) (split : IsBelow (map key xs) k n) where
    key_at : (i : ℕ) (x : X) → slice_get xs i ≡ Some x → slice_get (map key xs) i ≡ Some (key x)
    key_at i x e = slice_get-map key xs i ∙ ap (option_map key) e

    -- a later one is above that at the place, which isn't below the key
    not_later : (i : ℕ) (x : X) → slice_get xs i ≡ Some x → n < i → key x ≡ k → ⊥
    not_later i x e less same =
        let within = slice_get_within xs i x e in
        let t = turn_below xs n (omega (arith, less, within)) in
        let y = t.0 in
        let here : get_or xs n y ≡ y = get_or_from_slice_get xs n y y t.1.found in
        let there : get_or xs i y ≡ x = get_or_from_slice_get xs i x y e in
        let low : key_lt (key y) k ≡ true =
        ap (λ z. key_lt (key z) k) (sym here) ∙ (ap (key_lt (key (get_or xs n y))) (sym same ∙ ap key (sym there)) ∙ rises_pairs key xs rise n i y less within) in
        both_ways _ (split.others n (key y) (omega arith) (key_at n y t.1.found)) low

    nowhere : (option_map key (slice_get xs n) ≡ Some k → ⊥) → (i : ℕ) (x : X) → slice_get xs i ≡ Some x → key x ≡ k → ⊥
    nowhere other i x e same = elim (cases_lt i n) [
      | inl low ↦ bytes_lt-apart (key x) k (split.below i (key x) low (key_at i x e)) same
      | inr rest ↦ elim (cases_lt n i) [
        | inl more ↦ not_later i x e more same
        | inr none ↦
            let is : n ≡ i = omega (arith, rest, none) in
            other (ap (λ j. option_map key (slice_get xs j)) is ∙ (ap (option_map key) e ∙ ap Some same))
      ]
    ]

    pub missing : (option_map key (slice_get xs n) ≡ Some k → ⊥) → is_there ≡ false
    missing other =
        false_from_ne_true _ (λ some.
        let x = list_any-source (λ y. key_eq (key y) k) xs some in
        let i = slice_get-contained xs x.0 x.1 in
        nowhere other i.0 x.0 i.1 (bytes_eq-same (key x.0) k x.2))

    -- the test of the place tells
    pub is_there_if : (b : Bool) → OnTrue b (option_map key (slice_get xs n) ≡ Some k) → OnFalse b (option_map key (slice_get xs n) ≡ Some k → ⊥)
        → b ≡ is_there
    is_there_if true here none = sym (found_at n here)
    is_there_if false here none = sym (missing none)
