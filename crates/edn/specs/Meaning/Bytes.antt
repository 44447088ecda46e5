-- Kinds of bytes.
use Rattle.std.specs.Prelude.{ℕ, Bool, not, ◌&&◌, ◌||◌, ◌==◌, nat_le}

abbrev pub is_within : ℕ → ℕ → ℕ → Bool
is_within low high b = nat_le low b && nat_le b high

-- tab, LF, VT, FF, CR, the separators of ASCII (28 to 31), space and the comma
unfoldable pub is_space : ℕ → Bool
is_space b = is_within 9 13 b || is_within 28 32 b || b == 44

-- white space, `"`, `(`, `)`, `;`, `[`, `\`, `]`, `^`, `{` and `}`
unfoldable pub is_end : ℕ → Bool
is_end b = is_space b || b == 34 || b == 40 || b == 41 || b == 59 || is_within 91 94 b || b == 123 || b == 125

-- a byte of a number, a keyword or a symbol, or of none
abbrev pub is_word_byte : ℕ → Bool
is_word_byte b = not (is_end b)

-- one of them other than `/`, `@`, `` ` `` and `~`
unfoldable pub is_symbol_byte : ℕ → Bool
is_symbol_byte b = is_word_byte b && not (b == 47 || b == 64 || b == 96 || b == 126)
