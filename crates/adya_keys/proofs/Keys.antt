-- Keys that rise: each is below all later ones, so an element is the only one of its key.
-- That `key_eq` and `key_lt` are an equality and an order is in lemmas (Orderings), by lists of bytes.
use Rattle.std.proofs.Common.{◌≡◌, ℕ, zero, suc, true, false, List, [], ◌∷◌, map, get_or, refl, subst, arith, inl, inr}
use Rattle.std.specs.List.{AllPairs, Contains}
use Rattle.std.proofs.lemmas.Bool.{and_parts}
use Rattle.std.proofs.lemmas.List.Elements.{Contains-get_or}
use Rattle.lemmas.proofs.Members.{none_contained, Contains-cases}
use Rattle.lemmas.proofs.Orderings.{bytes_eq-other, bytes_lt-trans, bytes_lt-apart}
use Rattle.adya_keys.specs.Meaning.Keys.{key_eq, key_lt, keys_rise}

pub keys_rise-tail : (k : List ℕ) (ks : List (List ℕ)) → keys_rise (k ∷ ks) ≡ true → keys_rise ks ≡ true
keys_rise-tail k [] r = refl
keys_rise-tail k (j ∷ ks) r = (and_parts _ _ r).1

module _ {X : Type 0} (key : X → List ℕ) where
  pub rises_below : (x : X) (xs : List X) (y : X) → keys_rise (map key (x ∷ xs)) ≡ true → Contains xs y
      → key_lt (key x) (key y) ≡ true
  rises_below x [] y r c = absurd (none_contained y c)
  rises_below x (z ∷ xs) y r c =
      let parts = and_parts _ _ r in
      elim (Contains-cases z xs y c) [
        | inl e ↦ subst (λ w. key_lt (key x) (key w) ≡ true) e parts.0
        | inr d ↦ bytes_lt-trans (key x) (key z) (key y) parts.0 (rises_below z xs y parts.1 d)
      ]

  -- a first element isn't of the key of a later one
  pub rises_other : (x : X) (xs : List X) (y : X) → keys_rise (map key (x ∷ xs)) ≡ true → Contains xs y
      → key_eq (key x) (key y) ≡ false
  rises_other x xs y r c = bytes_eq-other (key x) (key y) (bytes_lt-apart (key x) (key y) (rises_below x xs y r c))

  pub rises_pairs : (xs : List X) → keys_rise (map key xs) ≡ true → AllPairs (λ a b. key_lt (key a) (key b) ≡ true) xs
  rises_pairs [] r i j d l m = absurd (omega (arith, m))
  rises_pairs (x ∷ xs) r i zero d l m = absurd (omega (arith, l))
  rises_pairs (x ∷ xs) r zero (suc j) d l m =
      rises_below x xs (get_or xs j d) r (Contains-get_or xs j d (omega (arith, m)))
  rises_pairs (x ∷ xs) r (suc i) (suc j) d l m =
      rises_pairs xs (keys_rise-tail (key x) (map key xs) r) i j d (omega (arith, l)) (omega (arith, m))
