-- The text of a file: it ends at the first zero byte.
use Rattle.std.specs.Prelude.{◌≡◌, ◌≢◌, ◌≤◌, ℕ, ◌==◌, if◌then◌else◌, List, [], ◌∷◌, ◌++◌, All, length}

-- what stands before the first zero
abbrev pub text_of : List ℕ → List ℕ
text_of [] = []
text_of (b ∷ bytes) = if b == 0 then [] else b ∷ text_of bytes

-- no byte is zero
abbrev pub HasNoZero : List ℕ → Type 0
HasNoZero text = All (λ b. b ≢ 0) text

-- a front of the text, with so many of its first bytes at least
pub record IsFrontOf (text : List ℕ) (sure : ℕ) (left : List ℕ) : Type 0 where
  pub rest : List ℕ
  pub whole : text ≡ left ++ rest
  pub kept : sure ≤ length left
