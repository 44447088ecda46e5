-- Which token of a text is at fault, and what is wrong with it.
use Rattle.std.specs.Prelude.{◌≡◌, ◌≢◌, ◌⊎◌, ◌%◌, ℕ, Bool, false, List, [], ◌∷◌, ◌++◌, length}
use Rattle.edn.specs.declared.read_fault.Problem.{Problem}
use Rattle.edn.specs.declared.read_fault.Problem.TheVariants as problem
use Rattle.edn.specs.declared.read_fault.ReadFault.{ReadFault}
use Rattle.edn.specs.declared.read_fault.ReadFault.TheVariants.{Syntax, Device, Memory}
use Rattle.edn.specs.declared.reader.Stage.{Stage}
use Rattle.edn.specs.declared.token.Closing.{Closing}
use Rattle.edn.specs.declared.token.Closing.TheVariants as closing
use Rattle.edn.specs.Meaning.Bytes.{is_space}
use Rattle.edn.specs.Meaning.Forms.{Form}
use Rattle.edn.specs.Meaning.Grammar.{AreItems}
use Rattle.edn.specs.Meaning.Lexing.{IsGap, IsBlank, Begins, Lexes}
use Rattle.edn.specs.Meaning.Lines.{line_after}
use Rattle.edn.specs.Meaning.Nesting.{IsOpening, IsOpenAfter, IsBefore, AreTooDeep}
use Rattle.edn.specs.Meaning.Names.{Namespace}
use Rattle.edn.specs.Meaning.Openings.{Opening}
use Rattle.edn.specs.Meaning.Openings as opening
use Rattle.edn.specs.Meaning.Readers.{AreNext}
use Rattle.edn.specs.Meaning.Strings.{IsInside, escape_len}
use Rattle.edn.specs.Meaning.Texts.{AreAll, AreSoFar}
use Rattle.edn.specs.Meaning.Tokens.{Token, opens, closes, is_square}

-- a text of EDN may have these tokens first
abbrev pub MayGoOn : List Token → Type 0
MayGoOn ts = (us : List Token) × (fs : List Form) × AreAll (ts ++ us) fs

-- ---- bytes that are no token

-- they begin with neither white space nor a comment
abbrev pub BeginOther : List ℕ → Type 0
BeginOther [] = ⊥
BeginOther (b ∷ bs) = (is_space b ≡ false) × (b ≢ 59)

-- nothing, or an escape that the text ends in
abbrev pub IsOpenEscape : List ℕ → Type 0
IsOpenEscape [] = Unit {0}
IsOpenEscape (b ∷ escape) = (b ≡ 92) × (escape_len escape ≡ length escape)

-- a string that the text ends in, after its quote; perhaps within an escape
abbrev pub IsOpenString : List ℕ → Type 0
IsOpenString text =
    (inside bytes left : List ℕ) × IsInside left inside bytes × IsOpenEscape left × (text ≡ inside ++ left)

-- a string that the text ends in, or a `\` or `#` that it ends with
abbrev pub IsCut : List ℕ → Type 0
IsCut [] = ⊥
IsCut (b ∷ bs) = ((b ≡ 34) × IsOpenString bs) ⊎ (((b ≡ 92) ⊎ (b ≡ 35)) × (bs ≡ []))

-- this is wrong with bytes that begin no token
abbrev pub IsWrongThere : Problem → List ℕ → Type 0
IsWrongThere problem.Unclosed bytes = IsCut bytes
IsWrongThere problem.Token bytes = IsCut bytes → ⊥
IsWrongThere _ bytes = ⊥

-- ---- tokens that can't stand there

-- of these tokens, this one is the last that opens what isn't complete: a bracket that isn't closed, with these forms behind
-- it, or a tag, `^` or `#_` without its form
abbrev pub IsInnermost : List Token → Token → List Form → Type 0
IsInnermost ts t fs =
    (us vs : List Token) × IsOpening t × IsOpenAfter t fs × AreItems vs fs × (ts ≡ us ++ t ∷ vs)

-- the bracket that closes what this one opens
abbrev pub closing_of : Opening → Closing
closing_of opening.List = closing.Round
closing_of opening.Vector = closing.Square
closing_of opening.Set = closing.Curly
closing_of (opening.Map namespace) = closing.Curly

abbrev pub begins_vector : List Token → Bool
begins_vector [] = false
begins_vector (t ∷ ts) = is_square t

-- nothing is open behind these tokens
abbrev pub IsNoneOpen : List Token → Type 0
IsNoneOpen ts = (begins_vector ts ≡ false) × ((fs : List Form) × AreItems ts fs)

-- this is wrong with the token, behind these
abbrev pub IsWrongBehind : Problem → List Token → Token → Type 0
IsWrongBehind problem.Unopened ts t =
    (b : Closing) × (t ≡ closes b) × (IsNoneOpen ts ⊎ ((o : Opening) × (fs : List Form) × IsInnermost ts (opens o) fs
    × (closing_of o ≢ b)))
IsWrongBehind problem.NoForm ts t =
    (b : Closing) × (t ≡ closes b) × ((o : Token) × (fs : List Form) × IsBefore o × IsInnermost ts o fs)
IsWrongBehind problem.NoValue ts t =
    (t ≡ closes closing.Curly)
    × ((namespace : Namespace) × (fs : List Form) × IsInnermost ts (opens (opening.Map namespace)) fs × (length fs % 2 ≡ 1))
IsWrongBehind problem.AfterVector ts t =
    (us : List Token) × (fs : List Form) × AreItems us fs × (ts ≡ opens opening.Vector ∷ us ++ closes closing.Square ∷ [])
IsWrongBehind _ ts t = ⊥

-- this is wrong with a text that ends behind these tokens
abbrev pub IsWrongAtEnd : Problem → List Token → Type 0
IsWrongAtEnd problem.Unclosed ts = (o : Opening) × (fs : List Form) × IsInnermost ts (opens o) fs
IsWrongAtEnd problem.NoForm ts = (o : Token) × (fs : List Form) × IsBefore o × IsInnermost ts o fs
IsWrongAtEnd _ ts = ⊥

-- ---- texts

-- the first fault of the text is on this line, and this is wrong there: bytes begin on the line that are no token, or a token
-- ends on it that can't stand there, or that nests one form too many; or it is the last line, and the text ends within a form
pub data HasFault : List ℕ → ℕ → Problem → Type 0 where
  no_token : {p : Problem} (ts : List Token) (front gap bytes : List ℕ) → MayGoOn ts → Lexes (front ++ bytes) ts (gap ++ bytes)
      → IsGap gap → BeginOther bytes → ((t : Token) (rest : List ℕ) → Begins t bytes rest → ⊥) → IsWrongThere p bytes
      → HasFault (front ++ bytes) (line_after front) p
  other_token : {p : Problem} (ts : List Token) (t : Token) (front rest : List ℕ) → MayGoOn ts
      → Lexes (front ++ rest) (ts ++ t ∷ []) rest → (MayGoOn (ts ++ t ∷ []) → ⊥) → IsWrongBehind p ts t
      → HasFault (front ++ rest) (line_after front) p
  too_deep : {stage : Stage} {fs : List Form} (ts us : List Token) (t : Token) (front rest : List ℕ)
      → AreSoFar stage ts fs → Lexes (front ++ rest) (ts ++ (us ++ t ∷ [])) rest → AreNext stage (us ++ t ∷ []) AreTooDeep
      → (AreNext stage us AreTooDeep → ⊥)
      → HasFault (front ++ rest) (line_after front) problem.Depth
  too_short : {p : Problem} {text : List ℕ} (ts : List Token) (rest : List ℕ) → MayGoOn ts → Lexes text ts rest → IsBlank rest
      → ((fs : List Form) → AreAll ts fs → ⊥) → IsWrongAtEnd p ts → HasFault text (line_after text) p

-- the fault, if it is one of the text, is the first one that the text has
abbrev pub IsFaultOf : List ℕ → ReadFault → Type 0
IsFaultOf text (Syntax line p) = HasFault text line p
IsFaultOf text Device = Unit {0}
IsFaultOf text Memory = Unit {0}
