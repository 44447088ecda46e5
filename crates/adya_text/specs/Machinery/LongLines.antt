-- The start of a line that is already too long for a text.
use Rattle.std.specs.Prelude.{◌≡◌, ℕ, ◌<◌, Option, None, Some, List, [], ◌∷◌, ◌++◌, length, All}
use Rattle.std.specs.Io.KnownBytes.{Consumes}
use Rattle.adya_line.specs.Meaning.Lines.{IsPlain}
use Rattle.adya_text.specs.Meaning.Texts.{with_ends}
use Rattle.adya_text.specs.Clauses.Faults.{Begins}

-- there are more bytes than the most, if there is a most
abbrev pub IsLonger : Option ℕ → List ℕ → Type 0
IsLonger None bytes = ⊥
IsLonger (Some most) bytes = most < length bytes

-- the text begins with these complete lines, and goes on with these bytes without a line feed
pub record HasStart (text : List ℕ) (lines : List (List ℕ)) (bytes : List ℕ) : Type 0 where
  pub plain : All IsPlain lines
  pub plain_bytes : IsPlain bytes
  pub rest : List ℕ
  pub whole : text ≡ with_ends lines ++ (bytes ++ rest)

-- after the lines, no line that begins with these bytes leads to a text of the grammar
pub record StartsNoLine (grammar : List (List ℕ) → Type 0) (lines : List (List ℕ)) (bytes : List ℕ) : Type 0 where
  pub some : bytes ≡ [] → ⊥
  pub stops : (more : List ℕ) → Begins grammar (lines ++ (bytes ++ more) ∷ []) → ⊥

-- what was consumed is the rest of a line, up to and with its line feed
pub record EndsLine (old new : Option (List ℕ)) : Type 0 where
  pub rest : List ℕ
  pub plain : IsPlain rest
  pub consumed : Consumes old new (rest ++ 10 ∷ [])
