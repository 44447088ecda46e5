-- What of two keys is below the other, and what keys that rise say of those after the first.
use Rattle.std.proofs.Common.{◌≡◌, ℕ, true, false, List, [], ◌∷◌, nat_cmp, is_lt, Ordering, Less, Equal, Greater, refl, sym, ◌∙◌, ap}
use Rattle.std.specs.Cmp.Lexicographic.{slice_cmp, nat_list_cmp_total}
use Rattle.std.specs.Ordering.{ordering_reverse}
use Rattle.std.proofs.lemmas.Bool.{and_parts, and_from}
use Rattle.lemmas.proofs.Orderings.{bytes_eq-other, bytes_lt-trans, bytes_lt-apart, less_from_is_lt, tied_bytes}
use Rattle.adya_keys.specs.Meaning.Keys.{key_eq, key_lt, keys_rise}

pub key_eq-lt : (a b : List ℕ) → key_lt a b ≡ true → key_eq a b ≡ false
key_eq-lt a b h = bytes_eq-other a b (bytes_lt-apart a b h)

pub key_eq-gt : (a b : List ℕ) → key_lt b a ≡ true → key_eq a b ≡ false
key_eq-gt a b h = bytes_eq-other a b (λ e. bytes_lt-apart b a h (sym e))

-- of different keys one is below the other
pub lt-other : (a b : List ℕ) → key_lt a b ≡ false → (a ≡ b → ⊥) → key_lt b a ≡ true
lt-other a b e other =
    ap is_lt (nat_list_cmp_total.antisymm b a) ∙ turned (slice_cmp nat_cmp a b) e (λ same. other (tied_bytes a b same))
  where
    turned : (o : Ordering) → is_lt o ≡ false → (o ≡ Equal → ⊥) → is_lt (ordering_reverse o) ≡ true
    turned Less f apart = absurd (cc (f))
    turned Equal f apart = absurd (apart refl)
    turned Greater f apart = refl

-- of two keys not both are below the other
pub lt-turned : (a b : List ℕ) → key_lt a b ≡ true → key_lt b a ≡ false
lt-turned a b e = ap is_lt (nat_list_cmp_total.antisymm b a ∙ ap ordering_reverse (less_from_is_lt _ e))

pub rise_skip : (k j : List ℕ) (ks : List (List ℕ)) → keys_rise (k ∷ j ∷ ks) ≡ true → keys_rise (k ∷ ks) ≡ true
rise_skip k j [] h = refl
rise_skip k j (l ∷ ks) h =
    let p = and_parts _ _ h in
    let q = and_parts _ _ p.1 in
    and_from _ _ (bytes_lt-trans k j l p.0 q.0) q.1
