-- What a list contains: through a cons, a map, lists joined end to end, and by its places.
use Rattle.std.proofs.Common.{◌≡◌, ℕ, zero, suc, ◌⊎◌, List, [], ◌∷◌, map, slice_get, Some, All, refl, sym, ◌∙◌, ap, subst, arith, inl, inr}
use Rattle.std.specs.List.{flat_map, Contains, AllByRecursion}
use Rattle.std.proofs.lemmas.Option.{slice_get_within, get_or_from_slice_get, slice_get-get_or}
use Rattle.std.proofs.lemmas.List.Elements.{Contains-append_left, Contains-append_right, Contains-append_cases, Contains-get_or, recursion_from_All}

pub none_contained : {X : Type 0} (x : X) → Contains [] x → ⊥
none_contained x c = omega (arith, c.1)

pub Contains-head : {X : Type 0} (x : X) (xs : List X) → Contains (x ∷ xs) x
Contains-head x xs = (0, omega arith, refl)

pub Contains-cons : {X : Type 0} (x : X) (xs : List X) (y : X) → Contains xs y → Contains (x ∷ xs) y
Contains-cons x xs y c = (suc c.0, omega (arith, c.1), c.2)

-- an element of a list is its first one, or one of the rest
pub Contains-cases : {X : Type 0} (x : X) (xs : List X) (y : X) → Contains (x ∷ xs) y → (x ≡ y) ⊎ Contains xs y
Contains-cases x xs y (zero, l, e) = inl e
Contains-cases x xs y (suc i, l, e) = inr (i, omega (arith, l), e)

pub Contains-slice_get : {X : Type 0} (xs : List X) (i : ℕ) (x : X) → slice_get xs i ≡ Some x → Contains xs x
Contains-slice_get xs i x e = (i, slice_get_within xs i x e, get_or_from_slice_get xs i x x e)

-- a place of an element
pub slice_get-contained : {X : Type 0} (xs : List X) (x : X) → Contains xs x → (i : ℕ) × (slice_get xs i ≡ Some x)
slice_get-contained xs x c = (c.0, slice_get-get_or xs c.0 x c.1 ∙ ap Some c.2)

pub Contains-map : {X Y : Type 0} (f : X → Y) (xs : List X) (x : X) → Contains xs x → Contains (map f xs) (f x)
Contains-map f [] x c = absurd (none_contained x c)
Contains-map f (z ∷ xs) x c =
    elim (Contains-cases z xs x c) [
      | inl e ↦ (0, omega arith, ap f e)
      | inr r ↦ Contains-cons (f z) (map f xs) (f x) (Contains-map f xs x r)
    ]

pub map-source : {X Y : Type 0} (f : X → Y) (xs : List X) (y : Y) → Contains (map f xs) y
    → (x : X) × Contains xs x × (f x ≡ y)
map-source f [] y c = absurd (none_contained y c)
map-source f (x ∷ xs) y c =
    elim (Contains-cases (f x) (map f xs) y c) [
      | inl e ↦ (x, Contains-head x xs, e)
      | inr d ↦ let r = map-source f xs y d in (r.0, Contains-cons x xs r.0 r.1, r.2)
    ]

pub Contains-flat_map : {X Y : Type 0} (f : X → List Y) (xs : List X) (x : X) (y : Y) → Contains xs x → Contains (f x) y
    → Contains (flat_map f xs) y
Contains-flat_map f [] x y c d = absurd (none_contained x c)
Contains-flat_map f (z ∷ xs) x y c d =
    elim (Contains-cases z xs x c) [
      | inl e ↦ Contains-append_left (f z) (flat_map f xs) y (subst (λ w. Contains (f w) y) (sym e) d)
      | inr r ↦ Contains-append_right (f z) (flat_map f xs) y (Contains-flat_map f xs x y r d)
    ]

pub flat_map-source : {X Y : Type 0} (f : X → List Y) (xs : List X) (y : Y) → Contains (flat_map f xs) y
    → (x : X) × Contains xs x × Contains (f x) y
flat_map-source f [] y c = absurd (none_contained y c)
flat_map-source f (x ∷ xs) y c =
    elim (Contains-append_cases (f x) (flat_map f xs) y c) [
      | inl d ↦ (x, Contains-head x xs, d)
      | inr d ↦ let r = flat_map-source f xs y d in (r.0, Contains-cons x xs r.0 r.1, r.2)
    ]

pub All-from_contained : {X : Type 0} (P : X → Type 0) (xs : List X) → ((x : X) → Contains xs x → P x) → All P xs
All-from_contained P xs h k d l = h _ (Contains-get_or xs k d l)

pub recursion-from_contained : {X : Type 0} (P : X → Type 0) (xs : List X) → ((x : X) → Contains xs x → P x)
    → AllByRecursion P xs
recursion-from_contained P xs h = recursion_from_All P xs (All-from_contained P xs h)
