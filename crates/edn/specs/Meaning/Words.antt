-- The form that a word is.
use Rattle.std.specs.Prelude.{ℕ, true, false, ◌==◌, nat_eq, List, [], ◌∷◌, codes, Option, Some, None, if◌then◌else◌}
use Rattle.std.specs.Cmp.Lexicographic.{pointwise}
use Rattle.edn.specs.Meaning.Forms.{Form, nil, boolean, keyword, symbol}
use Rattle.edn.specs.Meaning.Names.{is_symbol, is_keyword}
use Rattle.edn.specs.Meaning.Numbers.{begins_number, number_of}

-- the form of a text that has the bytes of a symbol
unfoldable pub named : List ℕ → Form
named text =
    if pointwise nat_eq text (codes "nil") then nil else
    if pointwise nat_eq text (codes "true") then boolean true else
    if pointwise nat_eq text (codes "false") then boolean false else symbol text

abbrev pub symbol_of : List ℕ → Option Form
symbol_of text = if is_symbol text then Some (named text) else None

abbrev pub keyword_of : List ℕ → Option Form
keyword_of name = if is_keyword name then Some (keyword name) else None

-- a keyword after a colon, a number, or else a symbol, of which `nil`, `true` and `false` are none
abbrev pub word_of : List ℕ → Option Form
word_of [] = None
word_of (b ∷ bs) =
    if b == 58 then keyword_of bs else
    if begins_number (b ∷ bs) then number_of (b ∷ bs) else symbol_of (b ∷ bs)
