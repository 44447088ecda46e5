-- How often a number stands in a list.
use Rattle.std.proofs.Common.{◌≡◌, ◌≢◌, ℕ, zero, suc, ◌+◌, ◌==◌, ◌<◌, ◌≤◌, cond, List, [], ◌∷◌, ◌++◌, Some, slice_get, ap, arith, inl, inr}
use Rattle.std.specs.List.{count_by, Contains}
use Rattle.std.proofs.lemmas.Bool.{eq-eqb, ne_eqb, cases_eq, cond-true, cond-false}
use Rattle.std.proofs.lemmas.Option.{same_Some, none-some}
use Rattle.std.proofs.lemmas.List.Sums.{sum_by-append, sum_by-cons}
use Rattle.lemmas.proofs.Members.{Contains-slice_get, slice_get-contained}

abbrev pub count : List ℕ → ℕ → ℕ
count xs t = count_by (λ u. u == t) xs

pub count-cons : (x : ℕ) (xs : List ℕ) (t : ℕ) → count (x ∷ xs) t ≡ cond (x == t) 1 0 + count xs t
count-cons x xs t = sum_by-cons (λ u. cond (u == t) 1 0) x xs

pub count_same : (x : ℕ) (xs : List ℕ) (t : ℕ) → x ≡ t → count (x ∷ xs) t ≡ suc (count xs t)
count_same x xs t e =
    let cons = count-cons x xs t in
    let same = cond-true {A = ℕ} (x == t) 1 0 (eq-eqb x t e) in
    omega (arith, cons, same)

pub count_other : (x : ℕ) (xs : List ℕ) (t : ℕ) → x ≢ t → count (x ∷ xs) t ≡ count xs t
count_other x xs t e =
    let cons = count-cons x xs t in
    let other = cond-false {A = ℕ} (x == t) 1 0 (ne_eqb x t e) in
    omega (arith, cons, other)

pub count_rest : (x : ℕ) (xs : List ℕ) (t : ℕ) → count xs t ≤ count (x ∷ xs) t
count_rest x xs t = let cons = count-cons x xs t in omega (arith, cons)

pub count-append : (xs ys : List ℕ) (t : ℕ) → count (xs ++ ys) t ≡ count xs t + count ys t
count-append xs ys t = sum_by-append (λ u. cond (u == t) 1 0) xs ys

-- what is counted stands somewhere
pub count_place : (xs : List ℕ) (t : ℕ) → 0 < count xs t → (i : ℕ) × (slice_get xs i ≡ Some t)
count_place [] t h = absurd (omega arith)
count_place (x ∷ xs) t h =
    elim (cases_eq x t) [
      | inl e ↦ (0, ap Some e)
      | inr e ↦
          let rest = count_place xs t (let same = count_other x xs t e in omega (arith, same, h)) in
          (suc rest.0, rest.1)
    ]

pub Contains-counted : (xs : List ℕ) (t : ℕ) → 0 < count xs t → Contains xs t
Contains-counted xs t h = let at = count_place xs t h in Contains-slice_get xs at.0 t at.1

-- what stands somewhere is counted
pub count_at : (xs : List ℕ) (i t : ℕ) → slice_get xs i ≡ Some t → 0 < count xs t
count_at [] i t h = absurd (none-some t h)
count_at (x ∷ xs) zero t h = let same = count_same x xs t (same_Some x t h) in omega (arith, same)
count_at (x ∷ xs) (suc i) t h =
    let rest = count_at xs i t h in
    let more = count_rest x xs t in
    omega (arith, rest, more)

pub count_contained : (xs : List ℕ) (t : ℕ) → Contains xs t → 0 < count xs t
count_contained xs t c = let at = slice_get-contained xs t c in count_at xs at.0 t at.1

-- what stands at two places is counted twice
pub count_twice : (xs : List ℕ) (i j t : ℕ) → slice_get xs i ≡ Some t → slice_get xs j ≡ Some t → i < j → 1 < count xs t
count_twice [] i j t h k l = absurd (none-some t h)
count_twice (x ∷ xs) i zero t h k l = absurd (omega arith)
count_twice (x ∷ xs) zero (suc j) t h k l =
    let same = count_same x xs t (same_Some x t h) in
    let rest = count_at xs j t k in
    omega (arith, same, rest)
count_twice (x ∷ xs) (suc i) (suc j) t h k l =
    let rest = count_twice xs i j t h k (omega arith) in
    let more = count_rest x xs t in
    omega (arith, rest, more)
