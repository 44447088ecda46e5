-- Lists that are gone over by their indices.
use Rattle.std.proofs.Common.{◌≡◌, ℕ, ◌+◌, ◌<◌, List, [], ◌∷◌, ◌++◌, length, Some, inl, inr, sym, ap, subst, ◌∙◌, take, arith}
use Rattle.std.specs.Prelude.{IfSome}
use Rattle.std.specs.List.{slice_get, flat_map, AllByRecursion}
use Rattle.std.proofs.lemmas.Grind.{flat_map-append}
use Rattle.std.proofs.lemmas.List.{append-nil}
use Rattle.std.proofs.lemmas.Option.{slice_get_cases}
use Rattle.lemmas.proofs.Steps.{turn_at}

-- what the elements before the next index give ends with what the one at this index gives
pub flat_map_more : {X A : Type 0} (f : X → List A) (xs : List X) (i : ℕ) (x : X) → slice_get xs i ≡ Some x
    → flat_map f (take (i + 1) xs) ≡ flat_map f (take i xs) ++ f x
flat_map_more f xs i x is =
    ap (λ ys. flat_map f ys) (turn_at xs i x is).front
    ∙ flat_map-append f (take i xs) (x ∷ []) ∙ ap (λ ys. flat_map f (take i xs) ++ ys) (append-nil (f x))

pub all_push : {X : Type 0} (P : X → Type 0) (xs : List X) (x : X) → AllByRecursion P xs → P x
    → AllByRecursion P (xs ++ x ∷ [])
all_push P [] x all one = (one, tt)
all_push P (y ∷ ys) x all one = (all.0, all_push P ys x all.1 one)

-- what holds of each element before this one and of this one holds of each before the next
pub all_more : {X : Type 0} (P : X → Type 0) (xs : List X) (i : ℕ) → i < length xs → IfSome (slice_get xs i) P
    → AllByRecursion P (take i xs) → AllByRecursion P (take (i + 1) xs)
all_more P xs i within one all = elim (slice_get_cases xs i).1 [
  | inl found ↦
      let is = found.2 in
      subst (AllByRecursion P) (sym (turn_at xs i found.0 is).front)
      (all_push P (take i xs) found.0 all (subst (λ o. IfSome o P) is one))
  | inr past ↦ absurd (omega (arith, within, past.0))
]
