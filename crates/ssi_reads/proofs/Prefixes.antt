-- A key between two others begins with what both begin with.
use Rattle.std.proofs.Common.{◌≡◌, ℕ, zero, suc, ◌<◌, ◌≤◌, ◌==◌, Bool, true, false, true≢false, cond, ◌&&◌, List, [], ◌∷◌, length, take, Option, refl, sym, ◌∙◌, ap, subst, arith, inl, inr}
use Rattle.std.specs.List.{Contains}
use Rattle.std.specs.Ordering.{nat_cmp, is_eq, is_le, ordering_then}
use Rattle.std.specs.Cmp.Lexicographic.{slice_cmp}
use Rattle.std.specs.declared.cmp.Ordering.{Ordering}
use Rattle.std.specs.declared.cmp.Ordering.TheVariants.{Less, Equal, Greater}
use Rattle.std.proofs.lemmas.Bool.{cases_Bool, cond-true, cond-false, eqb-true, and_parts, and_from, cases_lt}
use Rattle.std.proofs.lemmas.Bool.Decides.{nat_tests}
use Rattle.adya_keys.specs.Meaning.Keys.{key_le, lies_in}
use Rattle.lemmas.proofs.Booleans.{same_test}
use Rattle.lemmas.proofs.Members.{Contains-head, Contains-cons}
use Rattle.lemmas.proofs.Tests.{list_any_when}
use Rattle.ssi_reads.proofs.Compared.{prefix_itself}
use Rattle.ssi_reads.specs.Machinery.Prefixes.{prefix_of, prefixes, shared, prefix_cmp, begins}

abbrev Begins : List ℕ → List ℕ → List ℕ → Type 0
Begins low high k = (length (shared low high) ≤ length k) × (take (length (shared low high)) k ≡ take (length (shared low high)) low)

first_le : (o p : Ordering) → is_le (ordering_then o p) ≡ true → is_le o ≡ true
first_le Less p h = refl
first_le Equal p h = refl
first_le Greater p h = absurd (true≢false (sym h))

between : (a c : ℕ) → is_le (nat_cmp a c) ≡ true → is_le (nat_cmp c a) ≡ true → c ≡ a
between a c h g = grind (arith, nat_tests, h, g)

same_first : (a : ℕ) (p : Ordering) → is_le (ordering_then (nat_cmp a a) p) ≡ true → is_le p ≡ true
same_first a p h = sym (ap (λ o. is_le (ordering_then o p)) (itself a)) ∙ h
  where
    itself : (n : ℕ) → nat_cmp n n ≡ Equal
    itself n = grind (arith, nat_tests)

pub shared_begins : (low high k : List ℕ) → key_le low k ≡ true → key_le k high ≡ true → Begins low high k
shared_begins [] high k above below = (omega arith, refl)
shared_begins (a ∷ low) [] k above below = (omega arith, refl)
shared_begins (a ∷ low) (b ∷ high) [] above below = absurd (true≢false (sym above))
shared_begins (a ∷ low) (b ∷ high) (c ∷ k) above below =
    elim (cases_Bool (a == b)) [
      | inl e ↦
          let low_le : is_le (nat_cmp a c) ≡ true = first_le (nat_cmp a c) (slice_cmp nat_cmp low k) above in
          let high_le : is_le (nat_cmp c a) ≡ true =
          subst (λ x. is_le (nat_cmp c x) ≡ true) (sym (eqb-true a b e)) (first_le (nat_cmp c b) (slice_cmp nat_cmp k high) below) in
          let at : c ≡ a = between a c low_le high_le in
          let later = shared_begins low high k
          (same_first a _ (subst (λ x. is_le (ordering_then (nat_cmp a x) (slice_cmp nat_cmp low k)) ≡ true) at above))
          (same_first a _ (subst (λ x. is_le (ordering_then (nat_cmp a x) (slice_cmp nat_cmp k high)) ≡ true) (sym (eqb-true a b e))
          (subst (λ x. is_le (ordering_then (nat_cmp x b) (slice_cmp nat_cmp k high)) ≡ true) at below))) in
          let whole : shared (a ∷ low) (b ∷ high) ≡ a ∷ shared low high = cond-true (a == b) (a ∷ shared low high) [] e in
          subst (λ xs. (length xs ≤ suc (length k)) × (take (length xs) (c ∷ k) ≡ take (length xs) (a ∷ low))) (sym whole)
          (omega (arith, later.0), (λ i. at i ∷ later.1 i))
      | inr e ↦
          let none : shared (a ∷ low) (b ∷ high) ≡ [] = cond-false (a == b) (a ∷ shared low high) [] e in
          subst (λ xs. (length xs ≤ suc (length k)) × (take (length xs) (c ∷ k) ≡ take (length xs) (a ∷ low))) (sym none)
          (omega arith, refl)
    ]

pub prefix_contained : (k : List ℕ) (n m : ℕ) → n < m → Contains (prefixes k m) (prefix_of (take n k))
prefix_contained k n zero l = absurd (omega (arith, l))
prefix_contained k n (suc m) l =
    elim (cases_lt n m) [
      | inl less ↦ Contains-cons _ _ _ (prefix_contained k n m less)
      | inr more ↦
          let same : m ≡ n = omega (arith, l, more) in
          subst (λ j. Contains (prefixes k (suc m)) (prefix_of (take j k))) same (Contains-head _ _)
    ]

pub shared_within : (low high : List ℕ) → (length (shared low high) ≤ length low) × (length (shared low high) ≤ length high)
shared_within [] high = (omega arith, omega arith)
shared_within (a ∷ low) [] = (omega arith, omega arith)
shared_within (a ∷ low) (b ∷ high) = by_test (a == b) (shared_within low high)
  where
    by_test : (e : Bool) → (length (shared low high) ≤ length low) × (length (shared low high) ≤ length high)
        → (length (cond e (a ∷ shared low high) []) ≤ suc (length low)) × (length (cond e (a ∷ shared low high) []) ≤ suc (length high))
    by_test true later = (omega (arith, later.0), omega (arith, later.1))
    by_test false later = (omega arith, omega arith)

-- a key of the range begins with the prefix that its ends share
pub range_begins : (low high k : List ℕ) (q : Option (List ℕ)) → q ≡ prefix_of (take (length (shared low high)) low)
    → (begins k q && lies_in low high k) ≡ lies_in low high k
range_begins low high k q e =
    same_test (begins k q && lies_in low high k) (lies_in low high k) (λ h. (and_parts (begins k q) _ h).1)
    (λ h.
    let ends = and_parts (key_le low k) _ h in
    let shares = shared_begins low high k ends.0 ends.1 in
    let n = length (shared low high) in
    let at : prefix_of (take n k) ≡ q = ap prefix_of shares.1 ∙ sym e in
    and_from (begins k q) _
    (list_any_when (λ r. is_eq (prefix_cmp r q)) (prefixes k (suc (length k))) (prefix_of (take n k))
    (prefix_contained k n (suc (length k)) (omega (arith, shares.0)))
    (ap (λ r. is_eq (prefix_cmp r q)) at ∙ prefix_itself q)) h)
