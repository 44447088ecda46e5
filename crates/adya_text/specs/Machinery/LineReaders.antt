-- What a reader of lines knows of the lines that it was fed with, and its result of their text.
use Rattle.std.specs.Prelude.{ℕ, ◌≤◌, ◌⊎◌, List, length, Option, Some, None}
use Rattle.adya_text.specs.Clauses.Faults.{Begins, HasFront, IsCut, IsFirstFaulty}
use Rattle.adya_text.specs.Machinery.LongLines.{HasStart, StartsNoLine}

-- the reader was fed with these lines: its draft has them, or one of them is faulty
abbrev pub IsFed : {D : Type 0} → (List (List ℕ) → Type 0) → (D → List (List ℕ) → Type 0) → D → Option ℕ
    → List (List ℕ) → Type 0
IsFed grammar has_lines draft None lines = has_lines draft lines
IsFed grammar has_lines draft (Some k) lines = (k ≤ length lines) × IsFirstFaulty grammar lines k

-- the lines, and what follows them, show what the text is: they are all of it, or begin none of the grammar
pub data Shows (grammar : List (List ℕ) → Type 0) (text : List ℕ) (lines : List (List ℕ)) (rest : List ℕ) : Type 0 where
  complete : IsCut text lines rest → Shows grammar text lines rest
  stopped : (Begins grammar lines → ⊥) → HasFront text lines → Shows grammar text lines rest
  long : StartsNoLine grammar lines rest → HasStart text lines rest → Shows grammar text lines rest

-- the lines, and what follows them, begin no text of the grammar
abbrev pub BeginNone : (List (List ℕ) → Type 0) → List (List ℕ) → List ℕ → Type 0
BeginNone grammar lines rest = (Begins grammar lines → ⊥) ⊎ StartsNoLine grammar lines rest
