-- The bytes of a string, and how they are written between its quotes.
use Rattle.std.specs.Prelude.{◌≡◌, ◌≢◌, ℕ, ◌+◌, ◌==◌, ◌&&◌, nat_le, nat_lt, Bool, List, [], ◌∷◌, ◌++◌, length, take, map, encode_utf8, Option, Some, None, if◌then◌else◌}
use Rattle.std.specs.List.{prefix_len}
use Rattle.std.specs.Char.{digit_value, is_ascii_hexdigit, is_digit}
use Rattle.std.specs.Char.Utf16.{is_high_surrogate, is_low_surrogate, lone_unit_char, surrogate_pair_char}
use Rattle.std.specs.Int.Digits.{number_from_digits}

-- what a letter or a sign stands for after a backslash: `t`, `r`, `n`, `\`, `"`, `b` and `f`
unfoldable pub unescaped : ℕ → Option ℕ
unescaped b =
    if b == 116 then Some 9 else if b == 114 then Some 13 else if b == 110 then Some 10 else
    if b == 92 then Some 92 else if b == 34 then Some 34 else if b == 98 then Some 8 else
    if b == 102 then Some 12 else None

abbrev pub is_octal : ℕ → Bool
is_octal b = is_digit b 8

-- the number that digits write in this radix
abbrev pub code_in : ℕ → List ℕ → ℕ
code_in radix digits = number_from_digits radix (map digit_value digits)

-- ---- how long an escape is

-- how many of the first four bytes are hexadecimal digits, up to one that is none
abbrev pub hex_len : List ℕ → ℕ
hex_len text = prefix_len is_ascii_hexdigit (take 4 text)

-- of `u` and its digits
abbrev pub unit_len : List ℕ → ℕ
unit_len [] = 0
unit_len (b ∷ text) = if b == 117 then 1 + hex_len text else 0

-- of the backslash, `u` and the digits of a second unit
abbrev pub second_len : List ℕ → ℕ
second_len [] = 0
second_len (b ∷ text) = if b == 92 then 1 + unit_len text else 0

-- the unit of UTF-16 that four hexadecimal digits write
abbrev pub unit : ℕ → ℕ → ℕ → ℕ → ℕ
unit a b c d = code_in 16 (a ∷ b ∷ c ∷ d ∷ [])

-- they write the first of two units
abbrev pub begins_pair : ℕ → ℕ → ℕ → ℕ → Bool
begins_pair a b c d =
    is_ascii_hexdigit a && is_ascii_hexdigit b && is_ascii_hexdigit c && is_ascii_hexdigit d && is_high_surrogate (unit a b c d)

-- of the digits of a unit; with a second unit if that is the first of two
abbrev pub units_len : List ℕ → ℕ
units_len (a ∷ b ∷ c ∷ d ∷ text) = if begins_pair a b c d then 4 + second_len text else hex_len (a ∷ b ∷ c ∷ d ∷ text)
units_len text = hex_len text

-- how many bytes behind a backslash belong to its escape: `u`, four digits and perhaps a second unit; one to three octal
-- digits; or one other byte
abbrev pub escape_len : List ℕ → ℕ
escape_len [] = 0
escape_len (b ∷ text) =
    if b == 117 then 1 + units_len text else
    if is_octal b then 1 + prefix_len is_octal (take 2 text) else 1

-- ---- what an escape stands for

abbrev pub pair_char : ℕ → ℕ → Option ℕ
pair_char first second =
    if is_high_surrogate first && is_low_surrogate second then Some (surrogate_pair_char first second) else None

-- of a unit and what follows its digits
abbrev pub unit_char : ℕ → List ℕ → Option ℕ
unit_char first [] = lone_unit_char first
unit_char first (s ∷ u ∷ a ∷ b ∷ c ∷ d ∷ []) = pair_char first (unit a b c d)
unit_char first _ = None

-- the character of a unit of UTF-16, or of two
abbrev pub units_char : List ℕ → Option ℕ
units_char (a ∷ b ∷ c ∷ d ∷ rest) = unit_char (unit a b c d) rest
units_char _ = None

-- the character of an octal number up to 377
abbrev pub octal_char : List ℕ → Option ℕ
octal_char digits = if nat_le (length digits) 3 && nat_lt (code_in 8 digits) 256 then Some (code_in 8 digits) else None

abbrev pub letter_char : ℕ → List ℕ → Option ℕ
letter_char b [] = unescaped b
letter_char b (c ∷ cs) = None

-- the character that an escape of these bytes stands for
abbrev pub character_of : List ℕ → Option ℕ
character_of [] = None
character_of (b ∷ digits) =
    if b == 117 then units_char digits else if is_octal b then octal_char (b ∷ digits) else letter_char b digits

-- ---- strings

-- the text, with this behind it, is that of these bytes: each stands for itself, or they are those in UTF-8 of the
-- character that an escape stands for
pub data IsInside : List ℕ → List ℕ → List ℕ → Type 0 where
  nothing : {behind : List ℕ} → IsInside behind [] []
  plain : {b : ℕ} {behind text bytes : List ℕ} → b ≢ 34 → b ≢ 92 → IsInside behind text bytes
      → IsInside behind (b ∷ text) (b ∷ bytes)
  escaped : {c : ℕ} {behind text bytes : List ℕ} (escape : List ℕ) → escape_len (escape ++ (text ++ behind)) ≡ length escape
      → character_of escape ≡ Some c → IsInside behind text bytes
      → IsInside behind (92 ∷ (escape ++ text)) (encode_utf8 c ++ bytes)
