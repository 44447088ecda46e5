-- What a reader has read of a text.
use Rattle.std.specs.Prelude.{◌≡◌, ℕ, Bool, true, false, List, [], ◌∷◌, ◌++◌, Option, None, Some}
use Rattle.std.specs.Io.KnownBytes.{prepend_known}
use Rattle.edn.specs.declared.reader.Reader.{Reader}
use Rattle.edn.specs.declared.reader.Stage.{Stage}
use Rattle.edn.specs.declared.reader.Stage.TheVariants.{Start, Forms, Elements, Closed, Failed}
use Rattle.edn.specs.Meaning.Forms.{Form}
use Rattle.edn.specs.declared.token.Closing.TheVariants.{Square}
use Rattle.edn.specs.Meaning.Tokens.{Token, closes, is_square}
use Rattle.edn.specs.Meaning.Lexing.{IsBlank, Lexes}
use Rattle.edn.specs.Meaning.Grammar.{IsItem, AreItems}
use Rattle.edn.specs.Meaning.Nesting.{AreTooDeep}
use Rattle.edn.specs.Meaning.Reading.{IsLinked}
use Rattle.edn.specs.Computing.Building.{top}
use Rattle.edn.specs.Computing.Stacks.{stack_of}
use Rattle.edn.specs.Meaning.Tapes.{first_of}
use Rattle.edn.specs.Machinery.TapeForms.{tape_forms}
use Rattle.edn.specs.Machinery.Inputs.{work_left}

-- falls with each form: from the reads that the source has left
abbrev pub left_to_do : ℕ → Reader → ℕ
left_to_do reads r = work_left reads r.input.pending

-- the text that is to be read, if it is known: from what the source has left
abbrev pub text_left : Reader → Option (List ℕ) → Option (List ℕ)
text_left r left = prepend_known r.input.pending left

-- the line up to which the text was read
abbrev pub line_read : Reader → ℕ
line_read r = r.input.line

-- the form that was read last
abbrev pub form_read : Reader → Form
form_read r = first_of (tape_forms r.builder.forms)

-- the reader is one for this source, and isn't within a form
pub record IsReady (r : Reader) (left : Option (List ℕ)) : Type 0 where
  pub linked : IsLinked r.input.beyond left
  pub idle : stack_of r.builder ≡ top ∷ []

-- P holds of the tokens behind the `[` that the text begins with, or else of all of them
abbrev pub AreFirst : Bool → Token → List Token → (List Token → Type 0) → Type 0
AreFirst true t ts P = P ts
AreFirst false t ts P = P (t ∷ ts)

-- P holds of the tokens that come next; if the text begins with `[`, they come within that vector
abbrev pub AreNext : Stage → List Token → (List Token → Type 0) → Type 0
AreNext Start (t ∷ ts) P = AreFirst (is_square t) t ts P
AreNext Forms ts P = P ts
AreNext Elements ts P = P ts
AreNext _ _ P = ⊥

-- the tokens are those of the form that comes next; if the text begins with `[`, it is an element of that vector
abbrev pub IsFormAt : Stage → List Token → Form → Type 0
IsFormAt stage ts f = AreNext stage ts (λ us. IsItem us f)

-- the stage after the first token
abbrev pub begun : Bool → Stage
begun true = Elements
begun false = Forms

-- the stage after the tokens of a form
abbrev pub stage_after : Stage → List Token → Stage
stage_after Start (t ∷ ts) = begun (is_square t)
stage_after stage _ = stage

-- the text, if it is known, begins with the form, which leads from one stage to the next, and goes on so
abbrev pub ReadsForm : Stage → Stage → Option (List ℕ) → Option (List ℕ) → Form → Type 0
ReadsForm stage later None left f = Unit {0}
ReadsForm stage later (Some text) left f =
    (ts : List Token) × (rest : List ℕ) × Lexes text ts rest × IsFormAt stage ts f × (later ≡ stage_after stage ts)
    × (left ≡ Some rest)

-- the text is known, and begins with the form
abbrev pub BeginsForm : Stage → Option (List ℕ) → Form → Type 0
BeginsForm stage None f = ⊥
BeginsForm stage (Some text) f = (ts : List Token) × (rest : List ℕ) × Lexes text ts rest × IsFormAt stage ts f

-- the text doesn't begin with a form, or isn't known
abbrev pub HasNoForm : Stage → Option (List ℕ) → Type 0
HasNoForm stage text = (f : Form) → BeginsForm stage text f → ⊥

-- the text, if it is known, begins with tokens of forms that are nested too deep
abbrev pub IsTooDeep : Stage → Option (List ℕ) → Type 0
IsTooDeep stage None = Unit {0}
IsTooDeep stage (Some text) = (ts : List Token) × (rest : List ℕ) × Lexes text ts rest × AreNext stage ts AreTooDeep

-- the text is known, and begins with tokens of forms that are nested too deep
abbrev pub BeginsTooDeep : Stage → Option (List ℕ) → Type 0
BeginsTooDeep stage None = ⊥
BeginsTooDeep stage (Some text) = IsTooDeep stage (Some text)

-- the tokens are those of discarded forms, and the bracket that closes the vector
abbrev pub CloseVector : List Token → Type 0
CloseVector ts = (us : List Token) × AreItems us [] × (ts ≡ us ++ closes Square ∷ [])

abbrev pub AreLastBehind : Bool → Token → List Token → Type 0
AreLastBehind true t ts = CloseVector ts
AreLastBehind false t ts = AreItems (t ∷ ts) []

-- the tokens that come next are the last ones, and no form: those of discarded forms, and of a vector that the text is, its
-- closing bracket; behind that there are none, nor is anything read after a fault
abbrev pub AreLast : Stage → List Token → Type 0
AreLast Start [] = Unit {0}
AreLast Start (t ∷ ts) = AreLastBehind (is_square t) t ts
AreLast Forms ts = AreItems ts []
AreLast Elements ts = CloseVector ts
AreLast Closed ts = ts ≡ []
AreLast (Failed fault) ts = ts ≡ []

-- the text, if it is known, has no other form: it has these tokens, and then white space and comments alone
abbrev pub IsOver : Stage → Option (List ℕ) → Type 0
IsOver stage None = Unit {0}
IsOver stage (Some text) = (ts : List Token) × (rest : List ℕ) × Lexes text ts rest × AreLast stage ts × IsBlank rest

-- the text is known, and has no other form
abbrev pub EndsHere : Stage → Option (List ℕ) → Type 0
EndsHere stage None = ⊥
EndsHere stage (Some text) = IsOver stage (Some text)
