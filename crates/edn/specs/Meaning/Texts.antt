-- Whole texts, and how far a reader has come in one.
use Rattle.std.specs.Prelude.{◌≡◌, ◌≢◌, ℕ, true, false, List, [], ◌∷◌, ◌++◌, Option, Some}
use Rattle.edn.specs.declared.reader.Reader.{Reader}
use Rattle.edn.specs.declared.reader.Stage.{Stage}
use Rattle.edn.specs.declared.reader.Stage.TheVariants.{Start, Forms, Elements, Failed}
use Rattle.edn.specs.declared.read_fault.ReadFault.{ReadFault}
use Rattle.edn.specs.declared.token.Closing.TheVariants.{Square}
use Rattle.edn.specs.Meaning.Forms.{Form}
use Rattle.edn.specs.Meaning.Tokens.{Token, opens, closes, is_square}
use Rattle.edn.specs.Meaning.Grammar.{IsItem, AreItems}
use Rattle.edn.specs.Meaning.Lexing.{IsBlank, Lexes}
use Rattle.edn.specs.Meaning.Lines.{IsAt}
use Rattle.edn.specs.Meaning.Openings.{Vector}
use Rattle.edn.specs.Meaning.Readers.{IsReady, line_read, text_left}
use Rattle.edn.specs.Computing.Building.{is_top}
use Rattle.edn.specs.Computing.Stacks.{stack_of}
use Rattle.edn.specs.Machinery.Inputs.{IsSpent}

-- a whole text has these tokens and forms: if it begins with `[`, it is one vector, of which they are the elements; else
-- the forms follow one another
pub data AreAll : List Token → List Form → Type 0 where
  nothing : AreAll [] []
  all_forms : {t : Token} {ts : List Token} {fs : List Form} → is_square t ≡ false → AreItems (t ∷ ts) fs → AreAll (t ∷ ts) fs
  one_vector : {ts : List Token} {fs : List Form} → AreItems ts fs
      → AreAll (opens Vector ∷ ts ++ closes Square ∷ []) fs

-- the text is one of EDN, and has these forms
abbrev pub IsText : List ℕ → List Form → Type 0
IsText text fs = (ts : List Token) × (rest : List ℕ) × Lexes text ts rest × AreAll ts fs × IsBlank rest

-- it is one of EDN
abbrev pub IsEdn : List ℕ → Type 0
IsEdn text = (fs : List Form) × IsText text fs

-- it isn't one of EDN
abbrev pub IsNoText : List ℕ → Type 0
IsNoText text = (fs : List Form) → IsText text fs → ⊥

-- the tokens of these forms, up to the last one of the last form
pub data AreForms : List Token → List Form → Type 0 where
  no_forms : AreForms [] []
  one_more : {ts us : List Token} {fs : List Form} {f : Form} → AreForms ts fs → IsItem us f
      → AreForms (ts ++ us) (fs ++ f ∷ [])

-- a text that begins with these tokens has these forms so far: outside a vector, or within the one that it is
pub data AreSoFar : Stage → List Token → List Form → Type 0 where
  at_start : AreSoFar Start [] []
  outside : {t : Token} {ts : List Token} {fs : List Form} → is_square t ≡ false → AreForms (t ∷ ts) fs
      → AreSoFar Forms (t ∷ ts) fs
  inside : {ts : List Token} {fs : List Form} → AreForms ts fs → AreSoFar Elements (opens Vector ∷ ts) fs

-- of this text these forms have been read, and the reader goes on behind them, on its line, with what its source has left
pub record HasRead (text : List ℕ) (fs : List Form) (r : Reader) (left : Option (List ℕ)) : Type 0 where
  pub ready : IsReady r left
  pub so_far : (ts : List Token) × (rest : List ℕ) × Lexes text ts rest × AreSoFar r.stage ts fs × (text_left r left ≡ Some rest)
  pub line : IsAt text (text_left r left) (line_read r)

-- the end of the text was met, and reading hasn't failed
abbrev pub HasEnded : Reader → Type 0
HasEnded r =
    IsSpent r.input.beyond r.input.pending × (is_top (stack_of r.builder) ≡ true) × (r.stage ≢ Elements)
    × ((fault : ReadFault) → r.stage ≡ Failed fault → ⊥)

-- reading has failed
abbrev pub HasFailed : Reader → ReadFault → Type 0
HasFailed r fault = r.stage ≡ Failed fault

-- reading goes on: it hasn't failed
abbrev pub HasNotFailed : Reader → Type 0
HasNotFailed r = (fault : ReadFault) → HasFailed r fault → ⊥
