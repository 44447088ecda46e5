-- How tokens are written, and what may stand between them.
use Rattle.std.specs.Prelude.{◌≡◌, ◌≢◌, ℕ, true, List, [], ◌∷◌, ◌++◌, All, None, Some}
use Rattle.std.specs.List.{list_all}
use Rattle.edn.specs.declared.token.Closing.TheVariants as closing
use Rattle.edn.specs.Meaning.Bytes.{is_space, is_end, is_word_byte}
use Rattle.edn.specs.Meaning.Characters.{is_character}
use Rattle.edn.specs.Meaning.Forms.{Form, number, string, character}
use Rattle.edn.specs.Meaning.Names.{is_name, is_tag}
use Rattle.edn.specs.Meaning.Numbers.{is_symbolic}
use Rattle.edn.specs.Meaning.Openings as opening
use Rattle.edn.specs.Meaning.Strings.{IsInside}
use Rattle.edn.specs.Meaning.Tokens.{Token, opens, closes, discard, tag, meta, leaf}
use Rattle.edn.specs.Meaning.Words.{word_of}

-- white space, and comments up to their line feeds
pub data IsGap : List ℕ → Type 0 where
  no_gap : IsGap []
  space : {b : ℕ} {gap : List ℕ} → is_space b ≡ true → IsGap gap → IsGap (b ∷ gap)
  comment : {gap : List ℕ} (line : List ℕ) → All (λ b. b ≢ 10) line → IsGap gap → IsGap (59 ∷ (line ++ 10 ∷ gap))

-- nothing, or a comment that the text ends in
abbrev pub IsLastLine : List ℕ → Type 0
IsLastLine [] = Unit {0}
IsLastLine (b ∷ bs) = (b ≡ 59) × All (λ c. c ≢ 10) bs

-- the text has white space and comments alone
abbrev pub IsBlank : List ℕ → Type 0
IsBlank text = (gap line : List ℕ) × IsGap gap × IsLastLine line × (text ≡ gap ++ line)

-- the text ends, or goes on with a byte that ends a word
abbrev pub Ends : List ℕ → Type 0
Ends [] = Unit {0}
Ends (b ∷ bs) = is_end b ≡ true

-- bytes of which a word may be made
abbrev pub IsWord : List ℕ → Type 0
IsWord name = list_all is_word_byte name ≡ true

-- a text begins with the token, and goes on with the rest
pub data Begins : Token → List ℕ → List ℕ → Type 0 where
  round_opens : {rest : List ℕ} → Begins (opens opening.List) (40 ∷ rest) rest
  square_opens : {rest : List ℕ} → Begins (opens opening.Vector) (91 ∷ rest) rest
  curly_opens : {rest : List ℕ} → Begins (opens (opening.Map None)) (123 ∷ rest) rest
  set_opens : {rest : List ℕ} → Begins (opens opening.Set) (35 ∷ 123 ∷ rest) rest
  round_closes : {rest : List ℕ} → Begins (closes closing.Round) (41 ∷ rest) rest
  square_closes : {rest : List ℕ} → Begins (closes closing.Square) (93 ∷ rest) rest
  curly_closes : {rest : List ℕ} → Begins (closes closing.Curly) (125 ∷ rest) rest
  discards : {rest : List ℕ} → Begins discard (35 ∷ 95 ∷ rest) rest
  -- a map with a namespace
  curly_opens_within : {rest : List ℕ} (name : List ℕ) → IsWord name → is_name name ≡ true
      → Begins (opens (opening.Map (Some name))) (35 ∷ 58 ∷ (name ++ 123 ∷ rest)) rest
  metas : {rest : List ℕ} → Begins meta (94 ∷ rest) rest
  old_metas : {rest : List ℕ} → Begins meta (35 ∷ 94 ∷ rest) rest
  symbolics : {rest : List ℕ} (name : List ℕ) → IsWord name → is_symbolic name ≡ true → Ends rest
      → Begins (leaf (number (35 ∷ 35 ∷ name))) (35 ∷ 35 ∷ (name ++ rest)) rest
  tags : {rest : List ℕ} (name : List ℕ) → IsWord name → is_tag name ≡ true → Ends rest → Begins tag (35 ∷ (name ++ rest)) rest
  quotes : {bytes rest : List ℕ} (inside : List ℕ) → IsInside (34 ∷ rest) inside bytes
      → Begins (leaf (string bytes)) (34 ∷ (inside ++ 34 ∷ rest)) rest
  characters : {b : ℕ} {name rest : List ℕ} → IsWord name → is_character (b ∷ name) ≡ true
      → Ends rest → Begins (leaf (character (b ∷ name))) (92 ∷ b ∷ (name ++ rest)) rest
  words : {rest : List ℕ} {f : Form} (b : ℕ) (name : List ℕ) → b ≢ 35 → IsWord (b ∷ name) → word_of (b ∷ name) ≡ Some f
      → Ends rest → Begins (leaf f) (b ∷ (name ++ rest)) rest

-- a text has these tokens, and goes on with the rest
pub data Lexes : List ℕ → List Token → List ℕ → Type 0 where
  no_tokens : {text : List ℕ} → Lexes text [] text
  next : {rest end : List ℕ} {t : Token} {ts : List Token} (gap text : List ℕ) → IsGap gap → Begins t text rest
      → Lexes rest ts end → Lexes (gap ++ text) (t ∷ ts) end
