-- The names of symbols, keywords and tags. All that Clojure's reader takes is one, and some more.
use Rattle.std.specs.Prelude.{ℕ, Bool, true, false, nat_eq, not, ◌&&◌, ◌||◌, ◌==◌, nat_le, nat_lt, List, [], ◌∷◌, ◌++◌, length, take, drop, codes, Option, if◌then◌else◌}
use Rattle.std.specs.List.{prefix_len, list_all}
use Rattle.std.specs.Char.{is_ascii_digit, is_ascii_alphabetic}
use Rattle.std.specs.Cmp.Lexicographic.{pointwise}
use Rattle.edn.specs.Meaning.Bytes.{is_symbol_byte}

-- bytes of a symbol, at least one
abbrev pub is_some_symbol_bytes : List ℕ → Bool
is_some_symbol_bytes text = nat_lt 0 (length text) && list_all is_symbol_byte text

-- with no digit, `:` or `#`
abbrev pub begins_symbol : List ℕ → Bool
begins_symbol [] = false
begins_symbol (a ∷ bs) = not (is_ascii_digit a || a == 58 || a == 35)

-- with no other `:` than that of the keyword, which comes first, so that a digit may follow it
abbrev pub begins_keyword : List ℕ → Bool
begins_keyword [] = false
begins_keyword (a ∷ bs) = not (a == 58)

abbrev pub begins_tag : List ℕ → Bool
begins_tag [] = false
begins_tag (a ∷ bs) = is_ascii_alphabetic a || nat_le 128 a

abbrev pub is_name : List ℕ → Bool
is_name text = begins_symbol text && is_some_symbol_bytes text

abbrev pub is_keyword_name : List ℕ → Bool
is_keyword_name text = begins_keyword text && is_some_symbol_bytes text

abbrev pub is_no_slash : ℕ → Bool
is_no_slash b = not (b == 47)

abbrev pub is_empty : List ℕ → Bool
is_empty text = length text == 0

abbrev pub are_empty : List ℕ → List ℕ → Bool
are_empty prefix name = is_empty prefix && is_empty name

abbrev pub is_rest_byte : ℕ → Bool
is_rest_byte b = is_symbol_byte b || b == 47

-- bytes of a symbol and slashes, at least one
abbrev pub is_rest : List ℕ → Bool
is_rest text = nat_lt 0 (length text) && list_all is_rest_byte text

-- a prefix and a name
abbrev pub are_names : List ℕ → List ℕ → Bool
are_names prefix name = is_name prefix && is_rest name

abbrev pub are_keyword_names : List ℕ → List ℕ → Bool
are_keyword_names prefix name = is_keyword_name prefix && is_rest name

-- of a symbol's bytes before its first slash, and those from it on
abbrev pub is_symbol_at : List ℕ → List ℕ → Bool
is_symbol_at prefix [] = is_name prefix
is_symbol_at prefix (slash ∷ name) = are_empty prefix name || are_names prefix name

-- a name; a prefix, and a name that may have slashes; or `/`
abbrev pub is_symbol : List ℕ → Bool
is_symbol text = is_symbol_at (take (prefix_len is_no_slash text) text) (drop (prefix_len is_no_slash text) text)

abbrev pub is_keyword_at : List ℕ → List ℕ → Bool
is_keyword_at prefix [] = is_keyword_name prefix
is_keyword_at prefix (slash ∷ name) = are_empty prefix name || are_keyword_names prefix name

-- the same without the colon of a keyword
abbrev pub is_keyword : List ℕ → Bool
is_keyword text = is_keyword_at (take (prefix_len is_no_slash text) text) (drop (prefix_len is_no_slash text) text)

-- a tag without its `#`
abbrev pub is_tag : List ℕ → Bool
is_tag text = begins_tag text && is_symbol text

-- that of a map, if it has one
abbrev pub Namespace : Type 0
Namespace = Option (List ℕ)

-- the name of a keyword or symbol that has no namespace: it has no slash, or is `/`, as only that begins with one
abbrev pub is_bare : List ℕ → Bool
is_bare [] = true
is_bare (b ∷ bs) = list_all is_no_slash bs

-- without the namespace `_`
abbrev pub without_blank : List ℕ → List ℕ
without_blank name = if pointwise nat_eq (take 2 name) (codes "_/") then drop 2 name else name

-- the name, in a map with this namespace: `/` stands behind a namespace
abbrev pub qualified : List ℕ → List ℕ → List ℕ
qualified namespace name = if is_bare name then namespace ++ 47 ∷ name else without_blank name
