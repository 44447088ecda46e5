-- What an operation is read from: a form of EDN. A value of JSON stands for one: an array for a vector, an object for a map,
-- `null` for `nil`.
use Rattle.std.specs.Prelude.{ℕ, ℤ, pos, ◌+◌, ◌-◌, ◌*◌, ◌^◌, Bool, true, false, nat_eq, nat_le, nat_lt, ◌==◌, ◌&&◌, List, [], ◌∷◌, Option, Some, None, option_map, if◌then◌else◌}
use Rattle.std.specs.Option.{option_and_then, option_map_or, option_or}
use Rattle.std.specs.Cmp.Lexicographic.{pointwise}
use Rattle.edn.specs.Meaning.Forms.{Form, Forms, Pairs, nil, integer, string, keyword, list, vector, entries, no_forms, form, no_pairs, pair}
use Rattle.append_text.specs.declared.text_form.TextForm.{TextForm}
use Rattle.append_text.specs.declared.text_form.TextForm.TheVariants as text
use Rattle.append_text.specs.Meaning.Names.{Name, integer as integer_name, string as string_name, keyword as keyword_name}

abbrev pub is_nil : Form → Bool
is_nil nil = true
is_nil _ = false

abbrev pub integer_in : Form → Option ℤ
integer_in (integer z) = Some z
integer_in _ = None

-- the number n with one decimal digit more, if that is below 10^18
abbrev pub with_digit : ℕ → ℕ → Option ℕ
with_digit n b = if nat_lt n (10 ^ 17) && nat_le 48 b && nat_le b 57 then Some (n * 10 + (b - 48)) else None

-- the number that decimal digits write behind those of n
abbrev pub number_after : ℕ → List ℕ → Option ℕ
number_after n [] = Some n
number_after n (b ∷ bs) = option_and_then (λ m. number_after m bs) (with_digit n b)

abbrev pub number_in : List ℕ → Option ℕ
number_in [] = None
number_in (b ∷ bs) = number_after 0 (b ∷ bs)

-- the number as an integer of 64 bits
abbrev pub integer_of : ℕ → Option ℤ
integer_of n = if nat_lt n (2 ^ 63) then Some (pos n) else None

-- the number of a process, which may be a string in JSON
abbrev pub process_number : TextForm → Form → Option ℤ
process_number text.Json (string bytes) = option_and_then integer_of (number_in bytes)
process_number _ f = integer_in f

-- a key of an operation's map: EDN writes it as a keyword, JSON as a string
abbrev pub key : TextForm → Form → Option (List ℕ)
key text.Edn (keyword name) = Some name
key text.Json (string bytes) = Some bytes
key _ _ = None

-- in JSON some write the colon of a keyword too
abbrev pub without_colon : List ℕ → List ℕ
without_colon [] = []
without_colon (b ∷ bs) = if b == 58 then bs else b ∷ bs

-- a word is written as a key is, in JSON perhaps with its colon
abbrev pub word : TextForm → Form → Option (List ℕ)
word text.Edn f = key text.Edn f
word text.Json f = option_map without_colon (key text.Json f)

-- the form is this word
abbrev pub is_word : TextForm → List ℕ → Form → Bool
is_word n bytes f = option_map_or (λ w. pointwise nat_eq w bytes) (word n f) false

-- a key or an element
abbrev pub name_in : Form → Option Name
name_in (integer z) = Some (integer_name z)
name_in (string bytes) = Some (string_name bytes)
name_in (keyword name) = Some (keyword_name name)
name_in _ = None

abbrev pub listed : Forms → List Form
listed no_forms = []
listed (form f fs) = f ∷ listed fs

-- what stands in a vector or a list
abbrev pub elements : Form → Option (List Form)
elements (list fs) = Some (listed fs)
elements (vector fs) = Some (listed fs)
elements _ = None

-- what a form stands for among those of a text in EDN: the elements of a list, as of a printed sequence, else itself
abbrev pub parts : Form → List Form
parts (list fs) = listed fs
parts f = f ∷ []

-- the entries of a map
abbrev pub entries_in : Form → Option Pairs
entries_in (entries ps) = Some ps
entries_in _ = None

-- the value of the first key that is this one
abbrev pub at_key : TextForm → List ℕ → Pairs → Option Form
at_key n bytes no_pairs = None
at_key n bytes (pair k value ps) =
    if option_map_or (λ w. pointwise nat_eq w bytes) (key n k) false then Some value else at_key n bytes ps

-- the value of a field, whose key may have a colon in JSON
abbrev pub field : TextForm → List ℕ → Pairs → Option Form
field text.Edn bytes ps = at_key text.Edn bytes ps
field text.Json bytes ps = option_or (at_key text.Json bytes ps) (at_key text.Json (58 ∷ bytes) ps)
