-- Packed lines: what is at an index, and what is there when a line is added.
use Rattle.std.proofs.Common.{◌≡◌, ◌∙◌, ℕ, zero, suc, ◌≤◌, Bool, true, ◌&&◌, List, [], ◌∷◌, ◌++◌, length, drop, Some, slice_get, option_map, map, sym, ap, refl, arith}
use Rattle.std.specs.List.{list_all, zip}
use Rattle.std.proofs.lemmas.List.{drop_all}
use Rattle.std.proofs.lemmas.List.Folds.{list_all-map}
use Rattle.std.proofs.lemmas.Option.{none-some, same_Some, slice_get-map}
use Rattle.std.proofs.lemmas.Slice.Zip.{firsts-zip, length-zip, seconds-zip}
use Rattle.lemmas.proofs.Members.{Contains-slice_get}
use Rattle.lemmas.proofs.Tests.{all_pass}

-- ---- two lists of one length, side by side

module _ {X Y : Type 0} where
  pub length-pairs : (xs : List X) (ys : List Y) → length ys ≡ length xs → length (zip xs ys) ≡ length xs
  length-pairs xs ys l = length-zip xs ys ∙ omega (arith, l)

  pub first_found : (xs : List X) (ys : List Y) (i : ℕ) (x : X) → length ys ≡ length xs → slice_get xs i ≡ Some x
      → option_map (λ p. p.0) (slice_get (zip xs ys) i) ≡ Some x
  first_found xs ys i x l e = sym (slice_get-map (λ (p : X × Y). p.0) (zip xs ys) i) ∙ (ap (λ zs. slice_get zs i) (firsts-zip xs ys l) ∙ e)

  pub second_found : (xs : List X) (ys : List Y) (i : ℕ) (y : Y) → length ys ≡ length xs → slice_get ys i ≡ Some y
      → option_map (λ p. p.1) (slice_get (zip xs ys) i) ≡ Some y
  second_found xs ys i y l e = sym (slice_get-map (λ (p : X × Y). p.1) (zip xs ys) i) ∙ (ap (λ zs. slice_get zs i) (seconds-zip xs ys l) ∙ e)

  -- one more pair
  pub zip-append : (xs : List X) (ys : List Y) (x : X) (y : Y) → length ys ≡ length xs → zip (xs ++ x ∷ []) (ys ++ y ∷ []) ≡ zip xs ys ++ (x, y) ∷ []
  zip-append [] [] x y l = refl
  zip-append [] (b ∷ ys) x y l = absurd (omega (arith, l))
  zip-append (a ∷ xs) [] x y l = absurd (omega (arith, l))
  zip-append (a ∷ xs) (b ∷ ys) x y l = ap (λ ps. (a, b) ∷ ps) (zip-append xs ys x y (omega (arith, l)))

-- ---- what is known of all lines

-- whether all elements from a place on pass, by what is at the place
pub all_from : {X Y : Type 0} (f : Y → Bool) (part_of : X → Y) (xs : List X) (i : ℕ) (y : Y) → option_map part_of (slice_get xs i) ≡ Some y
    → list_all (λ x. f (part_of x)) (drop i xs) ≡ (f y && list_all (λ x. f (part_of x)) (drop (suc i) xs))
all_from f part_of [] i y e = absurd (none-some y e)
all_from f part_of (x ∷ xs) zero y e = ap (λ z. f z && list_all (λ w. f (part_of w)) xs) (same_Some (part_of x) y e)
all_from f part_of (x ∷ xs) (suc i) y e = all_from f part_of xs i y e

pub none_left : {X : Type 0} (f : X → Bool) (xs : List X) (i : ℕ) → length xs ≤ i → list_all f (drop i xs) ≡ true
none_left f xs i l = ap (list_all f) (drop_all i xs l)

pub one_of_all : {X Y : Type 0} (f : Y → Bool) (part_of : X → Y) (xs : List X) (i : ℕ) (y : Y) → option_map part_of (slice_get xs i) ≡ Some y
    → list_all (λ x. f (part_of x)) xs ≡ true → f y ≡ true
one_of_all f part_of xs i y e v =
    all_pass f (map part_of xs) y (list_all-map f part_of xs ∙ v) (Contains-slice_get (map part_of xs) i y (slice_get-map part_of xs i ∙ e))

-- an element by its parts
pub of_parts : {X Y Z : Type 0} (make : X → Y → Z) (xs : List (X × Y)) (i : ℕ) (x : X) (y : Y)
    → option_map (λ p. p.0) (slice_get xs i) ≡ Some x → option_map (λ p. p.1) (slice_get xs i) ≡ Some y
    → slice_get (map (λ p. make p.0 p.1) xs) i ≡ Some (make x y)
of_parts make [] i x y e f = absurd (none-some x e)
of_parts make (p ∷ xs) zero x y e f = ap (λ a. Some (make a p.1)) (same_Some p.0 x e) ∙ ap (λ b. Some (make x b)) (same_Some p.1 y f)
of_parts make (p ∷ xs) (suc i) x y e f = of_parts make xs i x y e f
