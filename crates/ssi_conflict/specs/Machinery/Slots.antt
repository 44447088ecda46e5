-- Records in places: which transaction has which place.
use Rattle.std.specs.Prelude.{◌≡◌, ℕ, true, Option, Some, None, is_some}

-- what stands in the place, if there is one
abbrev pub at_slot : {R : Type 0} → Option ℕ → (ℕ → Option R) → Option R
at_slot None held = None
at_slot (Some i) held = held i

-- each place is of one transaction
abbrev pub AreApart : (ℕ → Option ℕ) → Type 0
AreApart slot = (t u i : ℕ) → slot t ≡ Some i → slot u ≡ Some i → t ≡ u

-- the place of each transaction is taken
abbrev pub AreTaken : {R : Type 0} → (ℕ → Option ℕ) → (ℕ → Option R) → Type 0
AreTaken slot held = (t i : ℕ) → slot t ≡ Some i → is_some (held i) ≡ true
