-- One turn of a loop over a list, whose elements are seen as others.
use Rattle.std.proofs.Common.{◌≡◌, ℕ, suc, ◌+◌, ◌<◌, Bool, true, false, ◌&&◌, List, [], ◌∷◌, ◌++◌, Some, slice_get, map, take, drop, length, get_or, append_assoc, refl, sym, ◌∙◌, ap, arith, inl, inr}
use Rattle.std.proofs.Math.Seq.{drop-cons}
use Rattle.std.specs.List.{list_all, flat_map}
use Rattle.std.specs.Option.{option_map}
use Rattle.std.proofs.lemmas.Option.{slice_get-map, slice_get_read, slice_get_within, slice_get_cases, get_or_from_slice_get}
use Rattle.std.proofs.lemmas.List.{take_more}

-- what is left of a list at an index, by its first element
pub drop_step : {Y : Type 0} (ys : List Y) (i : ℕ) (y : Y) → i < length ys → y ≡ get_or ys i y
    → drop i ys ≡ y ∷ drop (i + 1) ys
drop_step ys i y l e =
    let next : suc i ≡ i + 1 = omega arith in
    drop-cons ys i y l ∙ (ap (λ x. x ∷ drop (suc i) ys) (sym e) ∙ ap (λ j. y ∷ drop j ys) next)

-- the element of the turn: its place, what is left from it on, and what was met with it
pub record IsTurn {X : Type 0} (xs : List X) (i : ℕ) (x : X) : Type 0 where
  pub found : slice_get xs i ≡ Some x
  pub less : i < length xs
  pub rest : drop i xs ≡ x ∷ drop (i + 1) xs
  pub front : take (i + 1) xs ≡ take i xs ++ x ∷ []

-- the list has the element at the index
pub turn_at : {X : Type 0} (xs : List X) (i : ℕ) (x : X) → slice_get xs i ≡ Some x → IsTurn xs i x
turn_at xs i x found =
    let less : i < length xs = slice_get_within xs i x found in
    let item : get_or xs i x ≡ x = get_or_from_slice_get xs i x x found in
    record {
      found = found;
      less = less;
      rest = drop_step xs i x less (sym item);
      front = take_more xs i x less ∙ ap (λ z. take i xs ++ z ∷ []) item;
    }

-- there is one at each index below the length
pub turn_below : {X : Type 0} (xs : List X) (i : ℕ) → i < length xs → (x : X) × IsTurn xs i x
turn_below xs i less =
    elim (slice_get_cases xs i).1 [
      | inl at ↦ (at.0, turn_at xs i at.0 at.2)
      | inr past ↦ let beyond = past.0 in absurd (omega (arith, less, beyond))
    ]

-- the list shows another's elements
pub turn : {X Y : Type 0} (view : Y → X) (ys : List Y) (i : ℕ) (y : Y) → i < length ys → y ≡ get_or ys i y
    → IsTurn (map view ys) i (view y)
turn view ys i y l at =
    turn_at (map view ys) i (view y) (slice_get-map view ys i ∙ ap (option_map view) (slice_get_read ys (length ys) i y refl l at))

-- a test of all that are left, at an element that passes or fails
module _ {X Y : Type 0} (f : X → Bool) (view : Y → X) (ys : List Y) (i : ℕ) (y : Y) (l : i < length ys)
    (at : y ≡ get_or ys i y) where
  pub list_all_goes : f (view y) ≡ true → list_all f (map view (drop i ys)) ≡ list_all f (map view (drop (i + 1) ys))
  list_all_goes e =
      ap (λ x. list_all f (map view x)) (drop_step ys i y l at) ∙
      ap (λ b. b && list_all f (map view (drop (i + 1) ys))) e

  pub list_all_fails : f (view y) ≡ false → list_all f (map view (drop i ys)) ≡ false
  list_all_fails e =
      ap (λ x. list_all f (map view x)) (drop_step ys i y l at) ∙
      ap (λ b. b && list_all f (map view (drop (i + 1) ys))) e

-- a loop that adds what each element gives to what is done
pub map_step : {X Y A : Type 0} (view : Y → X) (ys : List Y) (i : ℕ) (y : Y) → i < length ys → y ≡ get_or ys i y
    → (done all : List A) (f : X → A) → done ++ map f (map view (drop i ys)) ≡ all
    → (done ++ f (view y) ∷ []) ++ map f (map view (drop (i + 1) ys)) ≡ all
map_step view ys i y l at done all f s =
    append_assoc done (f (view y) ∷ []) (map f (map view (drop (i + 1) ys))) ∙
    (ap (λ zs. done ++ map f (map view zs)) (sym (drop_step ys i y l at)) ∙ s)

-- the same, of elements that give lists
pub flat_map_step : {X A : Type 0} (f : X → List A) (zs rest : List X) (x : X) → zs ≡ x ∷ rest → (done all : List A)
    → done ++ flat_map f zs ≡ all → (done ++ f x) ++ flat_map f rest ≡ all
flat_map_step f zs rest x at done all so_far =
    append_assoc done (f x) (flat_map f rest) ∙ (ap (λ ys. done ++ flat_map f ys) (sym at) ∙ so_far)
