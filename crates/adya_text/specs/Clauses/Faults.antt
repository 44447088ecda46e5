-- The line at which a text leaves a grammar. A grammar is given by the lists of lines that its texts have.
use Rattle.std.specs.Prelude.{◌≡◌, ℕ, ◌<◌, ◌⊎◌, List, [], ◌++◌, length, take, All}
use Rattle.adya_keys.specs.Meaning.Keys.{Bytes}
use Rattle.adya_line.specs.Meaning.Lines.{IsPlain}
use Rattle.adya_text.specs.Meaning.Texts.{with_ends}

-- the text has these complete lines, and then this rest without a line feed
pub record IsCut (text : Bytes) (lines : List Bytes) (rest : Bytes) : Type 0 where
  pub plain : All IsPlain lines
  pub plain_rest : IsPlain rest
  pub whole : text ≡ with_ends lines ++ rest

-- the text begins with these complete lines
pub record HasFront (text : Bytes) (lines : List Bytes) : Type 0 where
  pub plain : All IsPlain lines
  pub rest : Bytes
  pub whole : text ≡ with_ends lines ++ rest

-- the lines begin a text of the grammar
pub record Begins (grammar : List Bytes → Type 0) (lines : List Bytes) : Type 0 where
  pub more : List Bytes
  pub within : grammar (lines ++ more)

-- line k is missing, or no text of the grammar begins with the lines up to k
abbrev pub IsFaulty : (List Bytes → Type 0) → List Bytes → ℕ → Type 0
IsFaulty grammar lines k = (length lines < k) ⊎ (Begins grammar (take k lines) → ⊥)

-- k, counted from 1, is the first such line
pub record IsFirstFaulty (grammar : List Bytes → Type 0) (lines : List Bytes) (k : ℕ) : Type 0 where
  pub counted : 0 < k
  pub faulty : IsFaulty grammar lines k
  pub first : (j : ℕ) → 0 < j → j < k → IsFaulty grammar lines j → ⊥

-- the text is not of the grammar, and its fault is at line k
pub record IsFaultLine (grammar : List Bytes → Type 0) (text : Bytes) (k : ℕ) : Type 0 where
  pub lines : List Bytes
  pub rest : Bytes
  pub cut : IsCut text lines rest
  pub outside : grammar lines → rest ≡ [] → ⊥
  pub first : IsFirstFaulty grammar lines k
