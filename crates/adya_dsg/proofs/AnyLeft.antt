-- A test of any element that is left of a list, at one that passes or fails.
use Rattle.std.proofs.Common.{◌≡◌, ℕ, ◌+◌, Bool, true, false, ◌||◌, List, drop, Some, slice_get, ◌∙◌, ap}
use Rattle.std.specs.List.{list_any}
use Rattle.lemmas.proofs.Steps.{turn_at}

module _ {X : Type 0} (test : X → Bool) (xs : List X) (i : ℕ) (x : X) (found : slice_get xs i ≡ Some x) where
  here : (b : Bool) → test x ≡ b → list_any test (drop i xs) ≡ (b || list_any test (drop (i + 1) xs))
  here b t = ap (list_any test) (turn_at xs i x found).rest ∙ ap (λ c. c || list_any test (drop (i + 1) xs)) t

  pub any_here : test x ≡ true → list_any test (drop i xs) ≡ true
  any_here t = here true t

  pub any_later : test x ≡ false → list_any test (drop i xs) ≡ list_any test (drop (i + 1) xs)
  any_later t = here false t
