-- What the elements of a list give, in loops that add it or look for the first in it.
use Rattle.std.proofs.Common.{◌≡◌, ℕ, suc, ◌+◌, ◌<◌, ◌≤◌, Bool, true, false, ◌&&◌, cond, List, [], ◌∷◌, ◌++◌, map, drop, get_or, slice_get, length, Option, Some, None, refl, sym, ◌∙◌, ap, arith, append_assoc, append-nil}
use Rattle.std.proofs.Math.Seq.{drop-cons}
use Rattle.std.specs.List.{find, filter, flat_map, list_all}
use Rattle.std.specs.Option.{option_or}
use Rattle.std.proofs.lemmas.List.{map-append, drop_all}
use Rattle.std.proofs.lemmas.List.Folds.{find-append, list_all-append}
use Rattle.lemmas.proofs.Steps.{turn_at}

-- what the elements that pass a test give, by the first of them
module _ {X A : Type 0} (test : X → Bool) (f : X → List A) (zs rest : List X) (x : X) (splits : zs ≡ x ∷ rest) where
  pub filtered : (b : Bool) → test x ≡ b → flat_map f (filter test zs) ≡ cond b (f x) [] ++ flat_map f (filter test rest)
  filtered b t =
      ap (λ ys. flat_map f (filter test ys)) splits ∙
      (ap (λ c. flat_map f (cond c (x ∷ filter test rest) (filter test rest))) t ∙ one_more b)
    where
      one_more : (c : Bool) → flat_map f (cond c (x ∷ filter test rest) (filter test rest))
          ≡ cond c (f x) [] ++ flat_map f (filter test rest)
      one_more true = refl
      one_more false = refl

  -- a loop that adds it to what is done
  module _ (done all : List A) where
    pub kept_step : test x ≡ true → done ++ flat_map f (filter test zs) ≡ all
        → (done ++ f x) ++ flat_map f (filter test rest) ≡ all
    kept_step t s =
        append_assoc done (f x) (flat_map f (filter test rest)) ∙ (ap (λ ys. done ++ ys) (sym (filtered true t)) ∙ s)

    pub passed_step : test x ≡ false → done ++ flat_map f (filter test zs) ≡ all
        → done ++ flat_map f (filter test rest) ≡ all
    passed_step t s = ap (λ ys. done ++ ys) (sym (filtered false t)) ∙ s

pub at_end : {X A : Type 0} (test : X → Bool) (f : X → List A) (xs : List X) (i : ℕ) (done all : List A)
    → length xs ≤ i → done ++ flat_map f (filter test (drop i xs)) ≡ all → done ≡ all
at_end test f xs i done all l s =
    sym (append-nil done) ∙ (ap (λ zs. done ++ flat_map f (filter test zs)) (sym (drop_all i xs l)) ∙ s)

-- what is left of a list at an index, by its element, whatever the default past the end
pub drop_at : {X : Type 0} (xs : List X) (i : ℕ) (d : X) → i < length xs → drop i xs ≡ get_or xs i d ∷ drop (i + 1) xs
drop_at xs i d l =
    let next : suc i ≡ i + 1 = omega arith in
    drop-cons xs i d l ∙ ap (λ j. get_or xs i d ∷ drop j xs) next

-- what the elements from one on that pass a test give, by that element
module _ {X A : Type 0} (f : X → List A) (xs : List X) (i : ℕ) (x : X) (found : slice_get xs i ≡ Some x)
    (keep : X → Bool) where
  pub from_kept : keep x ≡ true
      → flat_map f (filter keep (drop i xs)) ≡ f x ++ flat_map f (filter keep (drop (i + 1) xs))
  from_kept t = filtered keep f (drop i xs) (drop (i + 1) xs) x (turn_at xs i x found).rest true t

  pub from_left_out : keep x ≡ false
      → flat_map f (filter keep (drop i xs)) ≡ flat_map f (filter keep (drop (i + 1) xs))
  from_left_out t = filtered keep f (drop i xs) (drop (i + 1) xs) x (turn_at xs i x found).rest false t

-- a front that has been added, taken off what is left to add
pub added_front : {A B : Type 0} (g : A → B) (done all : List B) (here front rest : List A) → here ≡ front ++ rest
    → done ++ map g here ≡ all → (done ++ map g front) ++ map g rest ≡ all
added_front g done all here front rest splits s =
    append_assoc done (map g front) (map g rest) ∙
    (ap (λ zs. done ++ zs) (sym (map-append g front rest)) ∙ (ap (λ zs. done ++ map g zs) (sym splits) ∙ s))

first_there : {A : Type 0} (o p : Option A) (x : A) → o ≡ Some x → option_or o p ≡ Some x
first_there None p x e = absurd (cc (e))
first_there (Some y) p x e = e

pub found_in_front : {A : Type 0} (test : A → Bool) (here front rest : List A) (x : A) → here ≡ front ++ rest
    → find test front ≡ Some x → find test here ≡ Some x
found_in_front test here front rest x splits e =
    ap (find test) splits ∙ (find-append test front rest ∙ first_there (find test front) (find test rest) x e)

pub none_in_front : {A : Type 0} (test : A → Bool) (here front rest : List A) → here ≡ front ++ rest
    → find test front ≡ None → find test here ≡ find test rest
none_in_front test here front rest splits e =
    ap (find test) splits ∙ (find-append test front rest ∙ ap (λ o. option_or o (find test rest)) e)

-- what is left of a list whose elements, seen as others, give it
module _ {X Y A : Type 0} (f : X → List A) (view : Y → X) (ys : List Y) (i : ℕ) where
  pub left_step : (d : Y) → i < length ys
      → flat_map f (map view (drop i ys)) ≡ f (view (get_or ys i d)) ++ flat_map f (map view (drop (i + 1) ys))
  left_step d l = ap (λ zs. flat_map f (map view zs)) (drop_at ys i d l)

  pub left_end : length ys ≤ i → flat_map f (map view (drop i ys)) ≡ []
  left_end l = ap (λ zs. flat_map f (map view zs)) (drop_all i ys l)

-- nothing is left to add
pub all_added : {A B : Type 0} (g : A → B) (done all : List B) (rest : List A) → rest ≡ [] → done ++ map g rest ≡ all → done ≡ all
all_added g done all rest none s = sym (append-nil done) ∙ (ap (λ zs. done ++ map g zs) (sym none) ∙ s)

-- a test of all, at a front that passes or fails
module _ {A : Type 0} (test : A → Bool) (here front rest : List A) (splits : here ≡ front ++ rest) where
  split : (b : Bool) → list_all test front ≡ b → list_all test here ≡ (b && list_all test rest)
  split b e = ap (list_all test) splits ∙ (list_all-append test front rest ∙ ap (λ c. c && list_all test rest) e)

  pub passes_in_front : list_all test front ≡ true → list_all test here ≡ list_all test rest
  passes_in_front = split true

  pub fails_in_front : list_all test front ≡ false → list_all test here ≡ false
  fails_in_front = split false
