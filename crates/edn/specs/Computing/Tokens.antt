-- Reading a token.
use Rattle.std.specs.Prelude.{◌≡◌, ◌≢◌, ℕ, ◌+◌, ◌<◌, ◌==◌, Bool, false, List, [], ◌∷◌, length, take, drop}
use Rattle.std.specs.Prelude.{Option, Some, None, if◌then◌else◌}
use Rattle.std.specs.List.{prefix_len}
use Rattle.edn.specs.declared.read_fault.Problem.{Problem}
use Rattle.edn.specs.declared.read_fault.Problem.TheVariants as problem
use Rattle.edn.specs.declared.token.Opening.{Opening as OpeningValue}
use Rattle.edn.specs.declared.token.Opening.TheVariants as Bracket
use Rattle.edn.specs.declared.token.Closing.TheVariants as closing
use Rattle.edn.specs.declared.token.Beyond.{Beyond}
use Rattle.edn.specs.declared.token.Beyond.TheVariants.{Unread, Nothing}
use Rattle.edn.specs.declared.leaf.Leaf.{Leaf as LeafValue}
use Rattle.edn.specs.declared.token.Token.{Token as TokenValue}
use Rattle.edn.specs.declared.token.Token.TheVariants as In
use Rattle.edn.specs.declared.token.Lexed.{Lexed as LexedValue}
use Rattle.edn.specs.declared.token.Lexed.TheVariants as Read
use Rattle.edn.specs.Meaning.Bytes.{is_word_byte}
use Rattle.edn.specs.Meaning.Characters.{is_character}
use Rattle.edn.specs.Meaning.Forms.{Form, nil, integer, number, string, character, keyword, atom_of}
use Rattle.edn.specs.Meaning.Keys.{name_in}
use Rattle.edn.specs.Meaning.Names.{is_name, is_tag}
use Rattle.edn.specs.Meaning.Numbers.{is_symbolic}
use Rattle.edn.specs.Meaning.Openings.{Opening}
use Rattle.edn.specs.Meaning.Openings as opening
use Rattle.edn.specs.Meaning.Shorts.{short_text}
use Rattle.edn.specs.Meaning.Tokens.{Token, opens, closes, discard, tag, meta, leaf}
use Rattle.edn.specs.Meaning.Words.{word_of}
use Rattle.edn.specs.Computing.Strings.{Quoted, closed, open_, bad as no_string, quoted_at}

-- a token and what follows; the text ends; more bytes decide; no token
pub data Lexed : Type 0 where
  token : Token → List ℕ → Lexed
  end : Lexed
  more : Lexed
  bad : Problem → Lexed

-- the bracket may have its namespace in the leaf
abbrev pub opening_of : LeafValue → OpeningValue → Opening
opening_of f Bracket.List = opening.List
opening_of f Bracket.Vector = opening.Vector
opening_of f Bracket.Set = opening.Set
opening_of f Bracket.Map = opening.Map None
opening_of f Bracket.NamespacedMap = opening.Map (Some (name_in (atom_of f.atom)))

-- the token may have its form in the leaf
abbrev pub token_of : LeafValue → TokenValue → Token
token_of f (In.Open b) = opens (opening_of f b)
token_of f (In.Close b) = closes b
token_of f In.Discard = discard
token_of f In.Tag = tag
token_of f In.Meta = meta
token_of f In.Nil = leaf nil
token_of f (In.Integer z) = leaf (integer z)
token_of f In.Keyword = leaf (keyword (short_text f.name))
token_of f In.Leaf = leaf (atom_of f.atom)

abbrev pub lexed_of : LeafValue → LexedValue → Lexed
lexed_of f (Read.Token t rest) = token (token_of f t) rest.now
lexed_of f Read.End = end
lexed_of f Read.More = more
lexed_of f (Read.Bad p) = bad p

-- nothing, or the beginning of a comment
abbrev pub BeginsComment : List ℕ → Type 0
BeginsComment [] = Unit {0}
BeginsComment (b ∷ bs) = b ≡ 59

-- what follows a token that has begun is shorter than the bytes; more bytes decide only if there may be more; nothing is
-- nested in a token
abbrev pub IsWithin : Beyond → List ℕ → LexedValue → Type 0
IsWithin beyond bytes (Read.Token t rest) = length rest.now < length bytes
IsWithin beyond bytes Read.End = ⊥
IsWithin beyond bytes Read.More = beyond ≡ Unread
IsWithin beyond bytes (Read.Bad p) = p ≢ problem.Depth

-- the same of a token that may begin there; the text ends only if nothing comes after the bytes, and they are none, or
-- begin a comment
abbrev pub IsRest : Beyond → List ℕ → LexedValue → Type 0
IsRest beyond bytes (Read.Token t rest) = length rest.now < length bytes
IsRest beyond bytes Read.End = (beyond ≡ Nothing) × BeginsComment bytes
IsRest beyond bytes Read.More = beyond ≡ Unread
IsRest beyond bytes (Read.Bad p) = p ≢ problem.Depth

abbrev pub no_token : Beyond → Lexed
no_token Unread = more
no_token Nothing = end

abbrev pub unfinished : Beyond → Lexed
unfinished Unread = more
unfinished Nothing = bad problem.Unclosed

abbrev pub may_go_on : List ℕ → Beyond → Bool
may_go_on rest Unread = length rest == 0
may_go_on rest Nothing = false

abbrev pub after_string : Beyond → Quoted → Lexed
after_string beyond (closed bytes rest) = token (leaf (string bytes)) rest
after_string beyond open_ = unfinished beyond
after_string beyond no_string = bad problem.Token

-- after the quote
abbrev pub string_token : Beyond → List ℕ → Lexed
string_token beyond text = after_string beyond (quoted_at 0 text)

abbrev pub character_at : Beyond → List ℕ → List ℕ → Lexed
character_at beyond name rest =
    if may_go_on rest beyond then more else
    if is_character name then token (leaf (character name)) rest else bad problem.Token

-- after the backslash
abbrev pub character_token : Beyond → List ℕ → Lexed
character_token beyond [] = unfinished beyond
character_token beyond (b ∷ bs) =
    character_at beyond (take (prefix_len is_word_byte bs + 1) (b ∷ bs)) (drop (prefix_len is_word_byte bs + 1) (b ∷ bs))

abbrev pub tag_at : Beyond → List ℕ → List ℕ → Lexed
tag_at beyond name rest =
    if may_go_on rest beyond then more else if is_tag name then token tag rest else bad problem.Token

-- after the `#`
abbrev pub tag_token : Beyond → List ℕ → Lexed
tag_token beyond text = tag_at beyond (take (prefix_len is_word_byte text) text) (drop (prefix_len is_word_byte text) text)

abbrev pub symbolic_at : Beyond → List ℕ → List ℕ → Lexed
symbolic_at beyond name rest =
    if may_go_on rest beyond then more else
    if is_symbolic name then token (leaf (number (35 ∷ 35 ∷ name))) rest else bad problem.Token

-- after `##`
abbrev pub symbolic_token : Beyond → List ℕ → Lexed
symbolic_token beyond text =
    symbolic_at beyond (take (prefix_len is_word_byte text) text) (drop (prefix_len is_word_byte text) text)

-- the bracket of a map with this namespace at the front
abbrev pub map_at : List ℕ → List ℕ → Lexed
map_at name [] = bad problem.Token
map_at name (b ∷ bs) = if b == 123 then token (opens (opening.Map (Some name))) bs else bad problem.Token

abbrev pub namespace_at : Beyond → List ℕ → List ℕ → Lexed
namespace_at beyond name rest =
    if may_go_on rest beyond then more else if is_name name then map_at name rest else bad problem.Token

-- after `#:`
abbrev pub namespace_token : Beyond → List ℕ → Lexed
namespace_token beyond text =
    namespace_at beyond (take (prefix_len is_word_byte text) text) (drop (prefix_len is_word_byte text) text)

abbrev pub dispatched : Beyond → List ℕ → Lexed
dispatched beyond [] = unfinished beyond
dispatched beyond (b ∷ bs) =
    if b == 123 then token (opens opening.Set) bs else
    if b == 95 then token discard bs else
    if b == 94 then token meta bs else
    if b == 35 then symbolic_token beyond bs else
    if b == 58 then namespace_token beyond bs else tag_token beyond (b ∷ bs)

abbrev pub of_word : Option Form → List ℕ → Lexed
of_word (Some f) rest = token (leaf f) rest
of_word None rest = bad problem.Token

abbrev pub word_at : Beyond → List ℕ → List ℕ → Lexed
word_at beyond name rest = if may_go_on rest beyond then more else of_word (word_of name) rest

abbrev pub word_token : Beyond → List ℕ → Lexed
word_token beyond text = word_at beyond (take (prefix_len is_word_byte text) text) (drop (prefix_len is_word_byte text) text)

unfoldable pub token_at : Beyond → List ℕ → Lexed
token_at beyond [] = no_token beyond
token_at beyond (b ∷ bs) =
    if b == 59 then no_token beyond else
    if b == 34 then string_token beyond bs else
    if b == 92 then character_token beyond bs else
    if b == 35 then dispatched beyond bs else
    if b == 40 then token (opens opening.List) bs else
    if b == 91 then token (opens opening.Vector) bs else
    if b == 123 then token (opens (opening.Map None)) bs else
    if b == 41 then token (closes closing.Round) bs else
    if b == 93 then token (closes closing.Square) bs else
    if b == 125 then token (closes closing.Curly) bs else
    if b == 94 then token meta bs else word_token beyond (b ∷ bs)
