-- Keys that rise, by their places.
use Rattle.std.proofs.Common.{◌≡◌, ◌∙◌, ℕ, zero, suc, ◌<◌, ◌≤◌, true, false, inl, inr, ◌&&◌, ◌-◌, List, [], ◌∷◌, drop, length, map, Some, option_map, slice_get, ap, arith, refl, subst, sym}
use Rattle.std.proofs.Math.Nat.{eq-or-lt_of_le}
use Rattle.std.proofs.lemmas.Bool.{and_parts, both_ways, false_from_ne_true}
use Rattle.std.proofs.lemmas.Option.{none-some, same_Some, slice_get-map}
use Rattle.lemmas.proofs.Orderings.{bytes_lt-trans}
use Rattle.adya_keys.specs.Meaning.Keys.{Key, key_lt, keys_rise}
use Rattle.adya_keys.proofs.Keys.{keys_rise-tail}

-- whether the keys from a place on rise, by the first two of them
pub rise_step : (ks : List Key) (n : ℕ) (a b : Key) → slice_get ks n ≡ Some a → slice_get ks (suc n) ≡ Some b
    → keys_rise (drop n ks) ≡ (key_lt a b && keys_rise (drop (suc n) ks))
rise_step [] n a b e f = absurd (none-some a e)
rise_step (k ∷ []) zero a b e f = absurd (none-some b f)
rise_step (k ∷ j ∷ ks) zero a b e f =
    ap (λ x. key_lt x j && keys_rise (j ∷ ks)) (same_Some k a e) ∙ ap (λ x. key_lt a x && keys_rise (j ∷ ks)) (same_Some j b f)
rise_step (k ∷ ks) (suc n) a b e f = rise_step ks n a b e f

-- the same of the keys of other things, by the later of the two places
pub rise_before : {X : Type 0} (key : X → Key) (xs : List X) (i : ℕ) (a b : Key) → 1 ≤ i
    → option_map key (slice_get xs (i - 1)) ≡ Some a → option_map key (slice_get xs i) ≡ Some b
    → keys_rise (drop (i - 1) (map key xs)) ≡ (key_lt a b && keys_rise (drop i (map key xs)))
rise_before key xs i a b l e f =
    let n = i - 1 in
    let next : suc n ≡ i = omega (arith, l) in
    rise_step (map key xs) n a b (slice_get-map key xs n ∙ e) (ap (slice_get (map key xs)) next ∙ (slice_get-map key xs i ∙ f)) ∙
    ap (λ j. key_lt a b && keys_rise (drop j (map key xs))) next

-- one key or none rises
pub rise_end : (ks : List Key) (n : ℕ) → length ks ≤ suc n → keys_rise (drop n ks) ≡ true
rise_end [] zero l = refl
rise_end [] (suc n) l = refl
rise_end (k ∷ []) zero l = refl
rise_end (k ∷ j ∷ ks) zero l = absurd (omega (arith, l))
rise_end (k ∷ ks) (suc n) l = rise_end ks n (omega (arith, l))

first_below : (k : Key) (ks : List Key) (i : ℕ) (a : Key) → keys_rise (k ∷ ks) ≡ true → slice_get ks i ≡ Some a → key_lt k a ≡ true
first_below k [] i a v e = absurd (none-some a e)
first_below k (j ∷ ks) zero a v e = subst (λ x. key_lt k x ≡ true) (same_Some j a e) (and_parts (key_lt k j) (keys_rise (j ∷ ks)) v).0
first_below k (j ∷ ks) (suc i) a v e =
    bytes_lt-trans k j a (and_parts (key_lt k j) (keys_rise (j ∷ ks)) v).0 (first_below j ks i a (and_parts (key_lt k j) (keys_rise (j ∷ ks)) v).1 e)

-- a key is below those after it
pub earlier_below : (ks : List Key) (i m : ℕ) (a b : Key) → keys_rise ks ≡ true → i < m → slice_get ks i ≡ Some a → slice_get ks m ≡ Some b
    → key_lt a b ≡ true
earlier_below [] i m a b v l e f = absurd (none-some a e)
earlier_below (k ∷ ks) zero zero a b v l e f = absurd (omega (arith, l))
earlier_below (k ∷ ks) zero (suc m) a b v l e f = subst (λ x. key_lt x b ≡ true) (same_Some k a e) (first_below k ks m b v f)
earlier_below (k ∷ ks) (suc i) zero a b v l e f = absurd (omega (arith, l))
earlier_below (k ∷ ks) (suc i) (suc m) a b v l e f = earlier_below ks i m a b (keys_rise-tail k ks v) (omega (arith, l)) e f

up_to : (i m : ℕ) → i < suc m → i ≤ m
up_to i m l = omega (arith, l)

-- if the key at a place is below another, so are those up to it
pub below_up_to : (ks : List Key) (m : ℕ) (b k : Key) → keys_rise ks ≡ true → slice_get ks m ≡ Some b → key_lt b k ≡ true
    → (i : ℕ) (j : Key) → i < suc m → slice_get ks i ≡ Some j → key_lt j k ≡ true
below_up_to ks m b k v f low i j l e =
    elim (eq-or-lt_of_le (up_to i m l)) [
      | inl same ↦ subst (λ x. key_lt x k ≡ true) (same_Some b j (sym f ∙ (ap (slice_get ks) (sym same) ∙ e))) low
      | inr before ↦ bytes_lt-trans j b k (earlier_below ks i m j b v before e f) low
    ]

-- if it isn't, neither are those from it on
pub none_from : (ks : List Key) (m : ℕ) (b k : Key) → keys_rise ks ≡ true → slice_get ks m ≡ Some b → key_lt b k ≡ false
    → (i : ℕ) (j : Key) → m ≤ i → slice_get ks i ≡ Some j → key_lt j k ≡ false
none_from ks m b k v f high i j l e =
    elim (eq-or-lt_of_le l) [
      | inl same ↦ subst (λ x. key_lt x k ≡ false) (same_Some b j (sym f ∙ (ap (slice_get ks) same ∙ e))) high
      | inr after ↦ false_from_ne_true (key_lt j k) (λ low. both_ways (key_lt b k) high (bytes_lt-trans b j k (earlier_below ks m i b j v after f e) low))
    ]
