-- What was read of a text, of which this is left.
use Rattle.std.specs.Prelude.{◌≡◌, List, [], ◌∷◌, ◌++◌, ℕ, Option, None, Some}
use Rattle.std.specs.Io.KnownBytes.{IsAtEnd}
use Rattle.edn.specs.declared.token.Beyond.{Beyond}
use Rattle.edn.specs.declared.token.Beyond.TheVariants.{Unread, Nothing}
use Rattle.edn.specs.Meaning.Tokens.{Token}
use Rattle.edn.specs.Meaning.Lexing.{IsGap, IsBlank, Begins, Lexes}

-- the source has nothing left if its end was met
abbrev pub IsLinked : Beyond → Option (List ℕ) → Type 0
IsLinked Unread left = Unit {0}
IsLinked Nothing left = IsAtEnd left

-- of the text, if it is known, a gap was passed over
abbrev pub PassesGap : Option (List ℕ) → Option (List ℕ) → Type 0
PassesGap None left = Unit {0}
PassesGap (Some text) None = ⊥
PassesGap (Some text) (Some rest) = (gap : List ℕ) × IsGap gap × (text ≡ gap ++ rest)

-- the text, if it is known, begins with a gap and the token
abbrev pub ReadsToken : Option (List ℕ) → Option (List ℕ) → Token → Type 0
ReadsToken None left t = Unit {0}
ReadsToken (Some text) left t =
    (gap front rest : List ℕ) × IsGap gap × Begins t front rest × (text ≡ gap ++ front) × (left ≡ Some rest)

-- it doesn't begin with a token
abbrev pub HasNoToken : Option (List ℕ) → Type 0
HasNoToken None = Unit {0}
HasNoToken (Some text) = (t : Token) (rest : List ℕ) → Lexes text (t ∷ []) rest → ⊥

-- it has white space and comments alone
abbrev pub IsBlankLeft : Option (List ℕ) → Type 0
IsBlankLeft None = Unit {0}
IsBlankLeft (Some text) = IsBlank text

-- it is known, and has white space and comments alone
abbrev pub IsKnownBlank : Option (List ℕ) → Type 0
IsKnownBlank None = ⊥
IsKnownBlank (Some text) = IsBlank text

-- it begins with these tokens
abbrev pub ReadsTokens : Option (List ℕ) → Option (List ℕ) → List Token → Type 0
ReadsTokens None left ts = Unit {0}
ReadsTokens (Some text) left ts = (rest : List ℕ) × Lexes text ts rest × (left ≡ Some rest)
