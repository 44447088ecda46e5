-- How a character is written after its backslash.
use Rattle.std.specs.Prelude.{ℕ, Bool, false, ◌&&◌, ◌||◌, ◌==◌, nat_eq, nat_le, nat_lt, List, [], ◌∷◌, length, codes, is_some, if◌then◌else◌}
use Rattle.std.specs.List.{list_all}
use Rattle.std.specs.Char.{is_ascii_hexdigit}
use Rattle.edn.specs.Meaning.Strings.{is_octal, octal_char}
use Rattle.std.specs.Cmp.Lexicographic.{pointwise}

abbrev pub is_named : List ℕ → Bool
is_named name =
    pointwise nat_eq name (codes "newline") || pointwise nat_eq name (codes "return") ||
    pointwise nat_eq name (codes "space") || pointwise nat_eq name (codes "tab") ||
    pointwise nat_eq name (codes "backspace") || pointwise nat_eq name (codes "formfeed")

-- `u` and four hexadecimal digits
abbrev pub is_coded : List ℕ → Bool
is_coded [] = false
is_coded (b ∷ digits) = b == 117 && length digits == 4 && list_all is_ascii_hexdigit digits

-- `o` and an octal number up to 377
abbrev pub is_octal_coded : List ℕ → Bool
is_octal_coded [] = false
is_octal_coded (b ∷ digits) = b == 111 && nat_lt 0 (length digits) && list_all is_octal digits && is_some (octal_char digits)

-- how many bytes of UTF-8 follow the first one of a character
abbrev pub bytes_after : ℕ → ℕ
bytes_after b = if nat_lt b 192 then 0 else if nat_lt b 224 then 1 else if nat_lt b 240 then 2 else 3

abbrev pub is_inner : ℕ → Bool
is_inner b = nat_le 128 b && nat_lt b 192

-- one character
abbrev pub is_single : List ℕ → Bool
is_single [] = false
is_single (b ∷ bytes) = length bytes == bytes_after b && list_all is_inner bytes

unfoldable pub is_character : List ℕ → Bool
is_character name = is_named name || is_coded name || is_octal_coded name || is_single name
