-- Choices by a test.
use Rattle.std.proofs.Common.{◌≡◌, ◌≢◌, ℕ, ◌==◌, Bool, true, false, cond, ◌⊎◌, inl, inr, refl}
use Rattle.std.proofs.lemmas.Bool.{eqb-false}

-- which way a choice went
pub chosen : {A : Type 0} (b : Bool) (x y z : A) → cond b x y ≡ z → ((b ≡ true) × (x ≡ z)) ⊎ ((b ≡ false) × (y ≡ z))
chosen true x y z e = inl (refl, e)
chosen false x y z e = inr (refl, e)

pub ne_from : (b n : ℕ) → (b == n) ≡ false → b ≢ n
ne_from b n e is = eqb-false b n e is

-- of two choices by one test, the second is what the first is
pub alike : {A : Type 0} (b : Bool) (z x y v w : A) → (x ≡ z → v ≡ z) → (y ≡ z → w ≡ z) → cond b x y ≡ z → cond b v w ≡ z
alike true z x y v w f g e = f e
alike false z x y v w f g e = g e
