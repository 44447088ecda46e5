-- Numbers in a row, and those of them that pass a test.
use Rattle.std.proofs.Common.{◌≡◌, ℕ, zero, suc, ◌<◌, ◌≤◌, Bool, true, false, cond, nat_lt, leb, List, [], ◌∷◌, length, get_or, Option, Some, None, is_some, IfSome, Bor, option_copied, slice_get, filter, find, refl, sym, ◌∙◌, ap, arith, ltb-true, ltb-false}
use Rattle.std.proofs.lemmas.Option.{slice_get_past, slice_get_read}
use Rattle.std.specs.List.Sorted.{IsNonDecreasingBy, IsPartitionPoint}
use Rattle.std.proofs.lemmas.Bool.{leb-true, leb-false, le-ltb, lt-ltb}
use Rattle.adya_values.specs.Computing.EdgeList.{numbers}

-- each number of the list is at least this one
abbrev AreAtLeast : ℕ → List ℕ → Type 0
AreAtLeast a xs = (i d : ℕ) → i < length xs → a ≤ get_or xs i d

at_least-cons : (a : ℕ) (xs : List ℕ) → AreAtLeast (suc a) xs → AreAtLeast a (a ∷ xs)
at_least-cons a xs h zero d l = omega arith
at_least-cons a xs h (suc i) d l = let rest = h i d (omega (arith, l)) in omega (arith, rest)

at_least : (test : ℕ → Bool) (a n : ℕ) → AreAtLeast a (filter test (numbers a n))
at_least test a zero = λ i d l. absurd (omega (arith, l))
at_least test a (suc n) =
    let xs = filter test (numbers (suc a) n) in
    let rest = at_least test (suc a) n in
    elim (test a) as (λ b. AreAtLeast a (cond b (a ∷ xs) xs)) [
      | true ↦ at_least-cons a xs rest
      | false ↦ λ i d l. let more = rest i d l in omega (arith, more)
    ]

rises-cons : (a : ℕ) (xs : List ℕ) → AreAtLeast (suc a) xs → IsNonDecreasingBy (λ q. q) xs
    → IsNonDecreasingBy (λ q. q) (a ∷ xs)
rises-cons a xs h r zero zero d l m = omega arith
rises-cons a xs h r zero (suc j) d l m = let more = h j d (omega (arith, m)) in omega (arith, more)
rises-cons a xs h r (suc i) zero d l m = absurd (omega (arith, l))
rises-cons a xs h r (suc i) (suc j) d l m = r i j d (omega (arith, l)) (omega (arith, m))

-- numbers that pass rise
pub passing_rise : (test : ℕ → Bool) (a n : ℕ) → IsNonDecreasingBy (λ q. q) (filter test (numbers a n))
passing_rise test a zero = λ i j d l m. absurd (omega (arith, m))
passing_rise test a (suc n) =
    let xs = filter test (numbers (suc a) n) in
    let rest = passing_rise test (suc a) n in
    elim (test a) as (λ b. IsNonDecreasingBy (λ q. q) (cond b (a ∷ xs) xs)) [
      | true ↦ rises-cons a xs (at_least test (suc a) n) rest
      | false ↦ rest
    ]

-- the first that passes, if those that fail come before it
find_after : {X : Type 0} (test : X → Bool) (xs : List X) (i : ℕ)
    → ((j : ℕ) (d : X) → j < i → j < length xs → test (get_or xs j d) ≡ false)
    → ((j : ℕ) (d : X) → i ≤ j → j < length xs → test (get_or xs j d) ≡ true) → find test xs ≡ slice_get xs i
find_after test [] zero below above = refl
find_after test [] (suc i) below above = refl
find_after test (x ∷ xs) zero below above =
    ap (λ b. cond b (Some x) (find test xs)) (above 0 x (omega arith) (omega arith))
find_after test (x ∷ xs) (suc i) below above =
    ap (λ b. cond b (Some x) (find test xs)) (below 0 x (omega arith) (omega arith)) ∙
    find_after test xs i (λ j d l m. below (suc j) d (omega (arith, l)) (omega (arith, m)))
    (λ j d l m. above (suc j) d (omega (arith, l)) (omega (arith, m)))

-- the first number above p, if a search found the first one that isn't at most p
pub first_above : (qs : List ℕ) (p i : ℕ) → IsPartitionPoint (λ q. leb q p ≡ true) (λ q. leb q p ≡ false) qs i
    → find (λ q. nat_lt p q) qs ≡ slice_get qs i
first_above qs p i point =
    find_after (λ q. nat_lt p q) qs i
    (λ j d l m. le-ltb p (get_or qs j d) (leb-true _ p (point.0 j d (omega arith) l)))
    (λ j d l m. lt-ltb p (get_or qs j d) (leb-false _ p (point.1 j d l m)))

-- what a look-up by an index found
pub got : {X : Type 0} (xs : List X) (i : ℕ) (r : Option (Bor X)) → is_some r ≡ nat_lt i (length xs)
    → IfSome r (λ x. x.now ≡ get_or xs i x.now) → option_copied r ≡ slice_get xs i
got xs i None s v = sym (slice_get_past xs i (ltb-false i (length xs) (sym s)))
got xs i (Some x) s v = sym (slice_get_read xs (length xs) i x.now refl (ltb-true i (length xs) (sym s)) v)
