-- The numbers of keys that differ.
use Rattle.std.proofs.Common.{◌≡◌, ℕ, ◌==◌, ◌<◌, true, false, cond, List, [], length, Some, None, ap, sym, ◌∙◌, arith, inl, inr}
use Rattle.std.specs.Prelude.{nat_lt}
use Rattle.std.specs.List.{position_or_len, IsDistinct}
use Rattle.std.proofs.lemmas.Bool.{cases_Bool, cases_eq, cases_lt, eqb-true, eq-eqb, lt-ltb, both_ways}
use Rattle.std.proofs.lemmas.List.Sums.{position_or_len_is}
use Rattle.std.proofs.lemmas.Map.Keys.{apart_from_distinct}
use Rattle.lemmas.proofs.Booleans.{same_test}
use Rattle.lemmas.proofs.Orderings.{bytes_eq-same, bytes_eq-from, bytes_eq-itself}
use Rattle.adya_keys.specs.Meaning.Keys.{Key, key_eq}
use Rattle.adya_keys.specs.Machinery.Within.{key_at}
use Rattle.adya_keys.specs.Mirror.{AreNumbered}

module _ (ks : List Key) (distinct : IsDistinct key_eq ks) where
  apart : (a b : ℕ) → a < b → b < length ks → key_eq (key_at ks a) (key_at ks b) ≡ true → ⊥
  apart a b l m e = both_ways _ (apart_from_distinct key_eq ks a b [] distinct l m) e

  turned : (a b : ℕ) → key_eq (key_at ks a) (key_at ks b) ≡ true → key_eq (key_at ks b) (key_at ks a) ≡ true
  turned a b e = bytes_eq-from (key_at ks b) (key_at ks a) (sym (bytes_eq-same (key_at ks a) (key_at ks b) e))

  one_number : (a b : ℕ) → a < length ks → b < length ks → key_eq (key_at ks a) (key_at ks b) ≡ true → a ≡ b
  one_number a b l m e =
      elim (cases_lt a b) [
        | inl less ↦ absurd (apart a b less m e)
        | inr more ↦
            elim (cases_eq a b) [
              | inl same ↦ same
              | inr other ↦ absurd (apart b a (omega (arith, more, other)) l (turned a b e))
            ]
      ]

  -- numbers are equal if their keys are
  pub same_number : (a b : ℕ) → a < length ks → b < length ks → (a == b) ≡ key_eq (key_at ks a) (key_at ks b)
  same_number a b l m =
      same_test _ _ (λ e. bytes_eq-from _ _ (ap (key_at ks) (eqb-true a b e))) (λ e. eq-eqb a b (one_number a b l m e))

  first_at : (n : ℕ) → n < length ks → position_or_len (key_eq (key_at ks n)) ks ≡ n
  first_at n l =
      position_or_len_is (key_eq (key_at ks n)) ks n [] (omega (arith, l)) (λ i m. other i m) (λ _. bytes_eq-itself (key_at ks n))
    where
      other : (i : ℕ) → i < n → key_eq (key_at ks n) (key_at ks i) ≡ false
      other i m = elim (cases_Bool (key_eq (key_at ks n) (key_at ks i))) [
        | inl e ↦ absurd (apart i n m l (turned n i e))
        | inr e ↦ e
      ]

  -- each number is that of its key
  pub are_numbered : AreNumbered ks
  are_numbered n l =
      ap (λ i. cond (nat_lt i (length ks)) (Some i) None) (first_at n l) ∙ ap (λ b. cond b (Some n) None) (lt-ltb n (length ks) l)
