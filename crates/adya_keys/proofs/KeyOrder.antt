-- How keys compare: a total order.
use Rattle.std.specs.Cmp.Lexicographic.{nat_list_cmp_total, slice_cmp}
use Rattle.std.specs.Ordering.{is_le, is_lt, nat_cmp, ordering_reverse}
use Rattle.std.specs.declared.cmp.Ordering.{Ordering}
use Rattle.std.specs.declared.cmp.Ordering.TheVariants.{Equal, Greater, Less}
use Rattle.std.proofs.Common.{List, ap, false, inl, inr, refl, subst, sym, true, ℕ, ◌∙◌, ◌≡◌, ◌⊎◌}
use Rattle.std.proofs.lemmas.Bool.{and_from, and_parts, both_ways}
use Rattle.std.proofs.lemmas.Cmp.{tied_itself}
use Rattle.std.proofs.lemmas.Map.Lookups.{exact_bytes}
use Rattle.lemmas.proofs.Orderings.{bytes_eq-from, bytes_lt-trans, less_from_is_lt}
use Rattle.adya_keys.specs.Meaning.Keys.{key_eq, key_le, key_lt, lies_in}

-- of two keys one is below the other, or they are equal
pub key_cases : (a b : List ℕ) → (key_lt a b ≡ true) ⊎ ((a ≡ b) ⊎ (key_lt b a ≡ true))
key_cases a b = by_order (slice_cmp nat_cmp a b) refl
  where
    by_order : (o : Ordering) → slice_cmp nat_cmp a b ≡ o → (key_lt a b ≡ true) ⊎ ((a ≡ b) ⊎ (key_lt b a ≡ true))
    by_order Less e = inl (ap is_lt e)
    by_order Equal e = inr (inl (exact_bytes a b e))
    by_order Greater e = inr (inr (ap is_lt (nat_list_cmp_total.antisymm b a ∙ ap ordering_reverse e)))

pub key_le-itself : (a : List ℕ) → key_le a a ≡ true
key_le-itself a = ap is_le (tied_itself nat_list_cmp_total a)

pub key_lt-never : (a : List ℕ) → key_lt a a ≡ true → ⊥
key_lt-never a e = both_ways (key_lt a a) (ap is_lt (tied_itself nat_list_cmp_total a)) e

pub key_le-from_lt : (a b : List ℕ) → key_lt a b ≡ true → key_le a b ≡ true
key_le-from_lt a b e = ap is_le (less_from_is_lt (slice_cmp nat_cmp a b) e)

pub key_le-from_eq : (a b : List ℕ) → a ≡ b → key_le a b ≡ true
key_le-from_eq a b e = subst (λ x. key_le a x ≡ true) e (key_le-itself a)

key_le-cases : (a b : List ℕ) → key_le a b ≡ true → (key_lt a b ≡ true) ⊎ (a ≡ b)
key_le-cases a b e =
    elim (key_cases a b) [
      | inl less ↦ inl less
      | inr rest ↦ elim rest [
        | inl same ↦ inr same
        | inr more ↦ absurd (by_order (slice_cmp nat_cmp a b) refl more)
      ]
    ]
  where
    by_order : (o : Ordering) → slice_cmp nat_cmp a b ≡ o → key_lt b a ≡ true → ⊥
    by_order Less f more = both_ways (key_lt b a)
        (ap is_lt (nat_list_cmp_total.antisymm b a ∙ ap ordering_reverse f)) more
    by_order Equal f more = both_ways (key_lt b a)
        (ap is_lt (nat_list_cmp_total.antisymm b a ∙ ap ordering_reverse f)) more
    by_order Greater f more = both_ways (key_le a b) (ap is_le f) e

pub key_le-from_not : (a b : List ℕ) → key_lt b a ≡ false → key_le a b ≡ true
key_le-from_not a b e =
    elim (key_cases a b) [
      | inl less ↦ key_le-from_lt a b less
      | inr rest ↦ elim rest [
        | inl same ↦ key_le-from_eq a b same
        | inr more ↦ absurd (both_ways (key_lt b a) e more)
      ]
    ]

-- neither below nor equal
pub key_lt-from_not : (a b : List ℕ) → key_lt a b ≡ false → key_eq a b ≡ false → key_lt b a ≡ true
key_lt-from_not a b e f =
    elim (key_cases a b) [
      | inl less ↦ absurd (both_ways (key_lt a b) e less)
      | inr rest ↦ elim rest [
        | inl same ↦ absurd (both_ways (key_eq a b) f (bytes_eq-from a b same))
        | inr more ↦ more
      ]
    ]

pub key_le-anti : (a b : List ℕ) → key_le a b ≡ true → key_le b a ≡ true → a ≡ b
key_le-anti a b e f =
    elim (key_le-cases a b e) [
      | inl less ↦ elim (key_le-cases b a f) [
        | inl more ↦ absurd (key_lt-never a (bytes_lt-trans a b a less more))
        | inr same ↦ sym same
      ]
      | inr same ↦ same
    ]

pub key_lt-from_le_lt : (a b c : List ℕ) → key_le a b ≡ true → key_lt b c ≡ true → key_lt a c ≡ true
key_lt-from_le_lt a b c e f =
    elim (key_le-cases a b e) [
      | inl less ↦ bytes_lt-trans a b c less f
      | inr same ↦ subst (λ x. key_lt x c ≡ true) (sym same) f
    ]

pub key_le-trans : (a b c : List ℕ) → key_le a b ≡ true → key_le b c ≡ true → key_le a c ≡ true
key_le-trans a b c e f =
    elim (key_le-cases b c f) [
      | inl less ↦ key_le-from_lt a c (key_lt-from_le_lt a b c e less)
      | inr same ↦ subst (λ x. key_le a x ≡ true) same e
    ]

-- the range of one key has no other
pub lies_in-one : (j k : List ℕ) → lies_in j j k ≡ true → j ≡ k
lies_in-one j k e = let both = and_parts (key_le j k) (key_le k j) e in key_le-anti j k both.0 both.1

pub lies_in-itself : (j k : List ℕ) → j ≡ k → lies_in j j k ≡ true
lies_in-itself j k e = subst (λ x. lies_in j j x ≡ true) e
    (and_from (key_le j j) (key_le j j) (key_le-itself j) (key_le-itself j))
