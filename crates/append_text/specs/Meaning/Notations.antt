-- What a text is written in, told by its first bytes.
use Rattle.std.specs.Prelude.{ℕ, Bool, true, false, nat_eq, ◌==◌, ◌&&◌, ◌||◌, List, [], ◌∷◌, drop, take, if◌then◌else◌}
use Rattle.std.specs.Cmp.Lexicographic.{pointwise}
use Rattle.append_text.specs.declared.text_form.TextForm.{TextForm}
use Rattle.append_text.specs.declared.text_form.TextForm.TheVariants as notation

-- white space of both: a space, a tab, a line feed, a carriage return
abbrev pub is_blank : ℕ → Bool
is_blank b = b == 32 || b == 9 || b == 10 || b == 13

-- a byte order mark
abbrev pub mark : List ℕ
mark = 239 ∷ 187 ∷ 191 ∷ []

-- the text behind the mark that it may begin with
abbrev pub after_mark : List ℕ → List ℕ
after_mark text = if pointwise nat_eq (take 3 text) mark then drop 3 text else text

abbrev pub after_blanks : List ℕ → List ℕ
after_blanks [] = []
after_blanks (b ∷ bs) = if is_blank b then after_blanks bs else b ∷ bs

abbrev pub begins_with : ℕ → List ℕ → Bool
begins_with x [] = false
begins_with x (b ∷ bs) = b == x

-- `{`, and then a string as the first key
abbrev pub begins_object : List ℕ → Bool
begins_object [] = false
begins_object (b ∷ bs) = (b == 123) && begins_with 34 (after_blanks bs)

-- such a map, perhaps as the first element behind a `[`
abbrev pub begins_objects : List ℕ → Bool
begins_objects [] = false
begins_objects (b ∷ bs) = if b == 91 then begins_object (after_blanks bs) else begins_object (b ∷ bs)

-- the first map of the text has a string as its first key
abbrev pub is_json : List ℕ → Bool
is_json text = begins_objects (after_blanks text)

abbrev pub notation_of : Bool → TextForm
notation_of true = notation.Json
notation_of false = notation.Edn

-- the first 8192 bytes of the text decide
abbrev pub notation_in : List ℕ → TextForm
notation_in text = notation_of (is_json (take 8192 text))
