-- The keys of a map that may have a namespace.
use Rattle.std.specs.Prelude.{ℕ, List, [], map, None, Some}
use Rattle.edn.specs.Meaning.Forms.{Form, keyword, symbol}
use Rattle.edn.specs.Meaning.Names.{Namespace, qualified}

-- a keyword or symbol without a namespace gets that of the map, and one whose namespace is `_` loses it; any other form
-- stays. A tag or metadata before a key is no part of its form
abbrev pub key_in : List ℕ → Form → Form
key_in namespace (keyword name) = keyword (qualified namespace name)
key_in namespace (symbol name) = symbol (qualified namespace name)
key_in namespace f = f

-- the entries of the map of which these are written
abbrev pub entries_in : Namespace → List (Form × Form) → List (Form × Form)
entries_in None ps = ps
entries_in (Some namespace) ps = map (λ p. (key_in namespace p.0, p.1)) ps

-- what a symbol is
abbrev pub name_in : Form → List ℕ
name_in (symbol name) = name
name_in _ = []
