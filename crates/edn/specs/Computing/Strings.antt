-- Reading a string after its opening quote.
use Rattle.std.specs.Prelude.{ℕ, zero, suc, ◌<◌, ◌≤◌, ◌==◌, List, [], ◌∷◌, ◌++◌, length, take, drop, encode_utf8, Option, Some, None, if◌then◌else◌}
use Rattle.edn.specs.declared.string.Escaped.{Escaped}
use Rattle.edn.specs.declared.string.Escaped.TheVariants as Stands
use Rattle.edn.specs.declared.string.Quoted.{Quoted as QuotedValue}
use Rattle.edn.specs.declared.string.Quoted.TheVariants as Read
use Rattle.edn.specs.Meaning.Strings.{character_of, escape_len}

-- the bytes and what follows the closing quote; the text ends before; it has an escape that there isn't
pub data Quoted : Type 0 where
  closed : (bytes rest : List ℕ) → Quoted
  open_ : Quoted
  bad : Quoted

-- with these bytes before the others
abbrev pub with_bytes : List ℕ → Quoted → Quoted
with_bytes front (closed bytes rest) = closed (front ++ bytes) rest
with_bytes front open_ = open_
with_bytes front bad = bad

abbrev pub with_character : Option ℕ → Quoted → Quoted
with_character None q = bad
with_character (Some c) q = with_bytes (encode_utf8 c) q

-- after an escape, which ends only before another byte
abbrev pub after_escape : List ℕ → List ℕ → Quoted → Quoted
after_escape escape [] q = open_
after_escape escape (b ∷ bs) q = with_character (character_of escape) q

-- after a backslash, if that is what the bytes behind the escape are read as
unfoldable pub escaped_at : List ℕ → Quoted → Quoted
escaped_at text q = after_escape (take (escape_len text) text) (drop (escape_len text) text) q

-- after so many bytes of an escape
abbrev pub quoted_at : ℕ → List ℕ → Quoted
quoted_at left [] = open_
quoted_at (suc left) (b ∷ text) = quoted_at left text
quoted_at zero (b ∷ text) =
    if b == 34 then closed [] text else
    if b == 92 then escaped_at text (quoted_at (escape_len text) text) else with_bytes (b ∷ []) (quoted_at zero text)

abbrev pub quoted_of : QuotedValue → List ℕ → Quoted
quoted_of (Read.Closed rest) bytes = closed bytes rest.now
quoted_of Read.Open bytes = open_
quoted_of Read.Bad bytes = bad

-- what follows the string is shorter than its text
abbrev pub IsShorter : List ℕ → QuotedValue → Type 0
IsShorter text (Read.Closed rest) = length rest.now < length text
IsShorter text Read.Open = Unit {0}
IsShorter text Read.Bad = Unit {0}

-- the string goes on after its escape
abbrev pub escaped_of : Escaped → Quoted
escaped_of (Stands.For c rest) = with_bytes (encode_utf8 c) (quoted_at zero rest.now)
escaped_of Stands.Open = open_
escaped_of Stands.Bad = bad

-- what follows the escape is no longer than its text
abbrev pub IsNoLonger : List ℕ → Escaped → Type 0
IsNoLonger text (Stands.For c rest) = length rest.now ≤ length text
IsNoLonger text Stands.Open = Unit {0}
IsNoLonger text Stands.Bad = Unit {0}
