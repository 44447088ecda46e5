-- What a token does to a reader.
use Rattle.std.specs.Prelude.{◌≡◌, ◌≤◌, ◌⊎◌, ◌++◌, ℕ, List, length, true, false, Option, None, Some, Ok}
use Rattle.edn.specs.declared.read_fault.ReadFault.{ReadFault}
use Rattle.edn.specs.declared.read_fault.ReadFault.TheVariants.{Syntax, Device, Memory}
use Rattle.edn.specs.declared.read_fault.Problem.{Problem}
use Rattle.edn.specs.declared.read_fault.Problem.TheVariants.{AfterVector, Unclosed}
use Rattle.edn.specs.declared.read_fault.Refusal.TheVariants as refusal
use Rattle.edn.specs.declared.reader.Stage.{Stage}
use Rattle.edn.specs.declared.reader.Stage.TheVariants.{Start, Forms, Elements, Closed, Failed}
use Rattle.edn.specs.declared.token.Closing.TheVariants.{Square}
use Rattle.edn.specs.Meaning.Blame.{BeginOther, IsWrongThere}
use Rattle.edn.specs.Meaning.Forms.{Form}
use Rattle.edn.specs.Meaning.Lexing.{IsGap}
use Rattle.edn.specs.Meaning.Lines.{line_after}
use Rattle.edn.specs.Meaning.Nesting.{IsOpening}
use Rattle.edn.specs.Meaning.Tokens.{Token, closes, is_square}
use Rattle.edn.specs.Computing.Building.{Frame, Refuses, is_top, problem_left, step}

abbrev pub Built : List Frame → Token → List Frame → Option Form → Type 0
Built old t new o = (step old t ≡ Ok (new, o)) × (IsOpening t → length old ≤ 64)

-- the builder may refuse the token with this fault
abbrev pub Refused : List Frame → Token → ReadFault → Type 0
Refused stack t (Syntax line p) = Refuses stack (refusal.Problem p) (step stack t)
Refused stack t Device = ⊥
Refused stack t Memory = Unit {0}

-- the fault is this one of the text
abbrev pub Says : Problem → ReadFault → Type 0
Says p (Syntax line q) = q ≡ p
Says p Device = ⊥
Says p Memory = ⊥

-- so may the reader at this stage
abbrev pub Stops : Stage → Token → List Frame → ReadFault → Type 0
Stops Start t stack fault = (is_square t ≡ false) × Refused stack t fault
Stops Forms t stack fault = Refused stack t fault
Stops Elements t stack fault = (t ≡ closes Square → is_top stack ≡ false) × Refused stack t fault
Stops Closed t stack fault = Says AfterVector fault
Stops (Failed before) t stack fault = fault ≡ before

abbrev pub Takes : Stage → Token → Stage → List Frame → List Frame → Option Form → Type 0
Takes Start t next old new o =
    ((is_square t ≡ true) × (next ≡ Elements) × (new ≡ old) × (o ≡ None))
    ⊎ ((is_square t ≡ false) × (next ≡ Forms) × Built old t new o)
Takes Forms t next old new o = (next ≡ Forms) × Built old t new o
Takes Elements t next old new o =
    ((next ≡ Closed) × (t ≡ closes Square) × (is_top old ≡ true) × (new ≡ old) × (o ≡ None)) ⊎ ((next ≡ Elements) × Built old t new o)
Takes Closed t next old new o = ⊥
Takes (Failed fault) t next old new o = ⊥

-- a text that ends there, within a form or within the vector that it is, has this fault
abbrev pub IsUnfinished : Stage → List Frame → ReadFault → Type 0
IsUnfinished stage stack fault =
    ((is_top stack ≡ false) × Says (problem_left stack) fault) ⊎ ((is_top stack ≡ true) × (stage ≡ Elements) × Says Unclosed fault)

-- a fault of the text, of which this is left, is that of bytes behind a gap that begin no token, and names their line
abbrev pub IsBadIn : List ℕ → Option (List ℕ) → ReadFault → Type 0
IsBadIn text left (Syntax line p) =
    (front : List ℕ) × (gap : List ℕ) × (bytes : List ℕ) × (text ≡ front ++ bytes) × (left ≡ Some (gap ++ bytes)) × IsGap gap
    × BeginOther bytes × IsWrongThere p bytes × (line ≡ line_after front)
IsBadIn text left Device = Unit {0}
IsBadIn text left Memory = Unit {0}
