-- Tests of all elements of a list, one after the other, and tests that give the same for each.
use Rattle.std.proofs.Common.{◌≡◌, ℕ, ◌+◌, ◌<◌, ◌≤◌, Bool, true, false, ◌&&◌, List, [], ◌∷◌, drop, get_or, length, refl, sym, ◌∙◌, ap, subst}
use Rattle.std.specs.List.{list_all, Contains}
use Rattle.std.proofs.lemmas.List.{drop_all}
use Rattle.std.proofs.lemmas.List.Elements.{Contains-get_or}
use Rattle.lemmas.proofs.Steps.{drop_step}
use Rattle.lemmas.proofs.Tests.{all_pass}

pub list_all-same : {X : Type 0} (f g : X → Bool) → ((x : X) → f x ≡ g x) → (xs : List X) → list_all f xs ≡ list_all g xs
list_all-same f g e [] = refl
list_all-same f g e (x ∷ xs) = ap (λ b. b && list_all f xs) (e x) ∙ ap (λ b. g x && b) (list_all-same f g e xs)

module _ {X : Type 0} (f : X → Bool) (xs : List X) (i : ℕ) where
  pub fails_here : (x : X) → i < length xs → x ≡ get_or xs i x → f x ≡ false → list_all f (drop i xs) ≡ false
  fails_here x less at fails = ap (list_all f) (drop_step xs i x less at) ∙ ap (λ b. b && list_all f (drop (i + 1) xs)) fails

  pub passes_here : (x : X) → i < length xs → x ≡ get_or xs i x → f x ≡ true → list_all f (drop i xs) ≡ list_all f (drop (i + 1) xs)
  passes_here x less at passes = ap (list_all f) (drop_step xs i x less at) ∙ ap (λ b. b && list_all f (drop (i + 1) xs)) passes

  pub passes_end : length xs ≤ i → list_all f (drop i xs) ≡ true
  passes_end past = ap (list_all f) (drop_all i xs past)

-- what holds of all holds of each
pub passes_at : {X : Type 0} (f : X → Bool) (xs : List X) → list_all f xs ≡ true → (i : ℕ) (x : X) → i < length xs → x ≡ get_or xs i x → f x ≡ true
passes_at f xs pass i x less at = all_pass f xs x pass (subst (Contains xs) (sym at) (Contains-get_or xs i x less))
