-- Numbers and keys that compare as equal, and a set with a number more.
use Rattle.std.proofs.Common.{◌≡◌, ℕ, ◌==◌, Bool, true, false, true≢false, cond, ◌&&◌, ◌||◌, List, refl, sym, ◌∙◌, ap, inl, inr, arith}
use Rattle.std.specs.Ordering.{nat_cmp, is_eq, is_le, ordering_reverse}
use Rattle.std.specs.declared.cmp.Ordering.{Ordering}
use Rattle.std.specs.declared.cmp.Ordering.TheVariants.{Less, Equal, Greater}
use Rattle.std.specs.Cmp.Lexicographic.{slice_cmp, nat_list_cmp_total}
use Rattle.std.proofs.lemmas.Map.Lookups.{exact_bytes}
use Rattle.std.proofs.lemmas.Bool.{cases_eq, eqb-true, eq-eqb, ne_eqb}
use Rattle.std.proofs.lemmas.Bool.Decides.{nat_tests}
use Rattle.adya_keys.specs.Meaning.Keys.{lies_in}

pub is_eq-nat_cmp : (a b : ℕ) → is_eq (nat_cmp a b) ≡ (a == b)
is_eq-nat_cmp a b = grind (arith, nat_tests)

flip_eq : (a b : ℕ) → (a == b) ≡ (b == a)
flip_eq a b =
    elim (cases_eq a b) [
      | inl e ↦ eq-eqb a b e ∙ sym (eq-eqb b a (sym e))
      | inr ne ↦ ne_eqb a b ne ∙ sym (ne_eqb b a (λ e. ne (sym e)))
    ]

pub txn_at : (t u : ℕ) → is_eq (nat_cmp t u) ≡ (u == t)
txn_at t u = is_eq-nat_cmp t u ∙ flip_eq t u

pub same_txn : (t q : ℕ) → is_eq (nat_cmp t q) ≡ true → t ≡ q
same_txn t q h = eqb-true t q (sym (is_eq-nat_cmp t q) ∙ h)

equal_from : (o : Ordering) → is_eq o ≡ true → o ≡ Equal
equal_from Less h = absurd (true≢false (sym h))
equal_from Equal h = refl
equal_from Greater h = absurd (true≢false (sym h))

pub same_key : (k q : List ℕ) → is_eq (slice_cmp nat_cmp k q) ≡ true → k ≡ q
same_key k q h = exact_bytes k q (equal_from (slice_cmp nat_cmp k q) h)

both_le : (o : Ordering) → (is_le o && is_le (ordering_reverse o)) ≡ is_eq o
both_le Less = refl
both_le Equal = refl
both_le Greater = refl

-- a key is the only one between itself and itself
pub lies_at : (k q : List ℕ) → is_eq (slice_cmp nat_cmp k q) ≡ lies_in k k q
lies_at k q =
    sym (ap (λ o. is_le (slice_cmp nat_cmp k q) && is_le o) (nat_list_cmp_total.antisymm q k) ∙ both_le (slice_cmp nat_cmp k q))

pub cond_or : (b c : Bool) → cond b true c ≡ (b || c)
cond_or true c = refl
cond_or false c = refl

-- a set that takes x, and a fact that holds
pub taken : (old new : Bool) (x t : ℕ) (fact : Bool) → fact ≡ true → new ≡ cond (is_eq (nat_cmp x t)) true old
    → new ≡ (((t == x) && fact) || old)
taken old new x t true c e = e ∙ (cond_or (is_eq (nat_cmp x t)) old ∙ (ap (λ b. b || old) (txn_at x t) ∙ plain (t == x)))
  where
    plain : (b : Bool) → (b || old) ≡ ((b && true) || old)
    plain true = refl
    plain false = refl
taken old new x t false c e = absurd (true≢false (sym c))
