-- What a text in JSON says, and what is wrong with one that is that of no history.
use Rattle.std.specs.Prelude.{◌==◌, ◌&&◌, ◌||◌, codes, false, nat_eq, Option, ◌≡◌, ◌≢◌, ◌⊎◌, ℕ, suc, Bool, List, [], ◌∷◌, ◌++◌, length, take, Some, IsUtf8}
use Rattle.std.specs.Bool.{MatchBool}
use Rattle.std.specs.Cmp.Lexicographic.{pointwise}
use Rattle.std.specs.Option.{option_and_then, option_or}
use Rattle.serde_json.specs.Data.{Data, Items}
use Rattle.serde_json.specs.Find.{as_array, get}
use Rattle.serde_json.specs.Read.{read}
use Rattle.edn.specs.Meaning.Forms.{Form}
use Rattle.append_text.specs.declared.history.History.{History}
use Rattle.append_text.specs.declared.read_fault.Place.{Place}
use Rattle.append_text.specs.declared.read_fault.Place.TheVariants.{Line, Element}
use Rattle.append_text.specs.declared.read_fault.Problem.{Problem}
use Rattle.append_text.specs.declared.read_fault.Problem.TheVariants as problem
use Rattle.append_text.specs.declared.read_fault.ReadFault.{ReadFault}
use Rattle.append_text.specs.declared.read_fault.ReadFault.TheVariants.{Text, Device, Memory}
use Rattle.append_text.specs.declared.text_form.TextForm.{TextForm}
use Rattle.append_text.specs.declared.text_form.TextForm.TheVariants as notation
use Rattle.append_text.specs.Meaning.Data.{listed}
use Rattle.append_text.specs.Meaning.Json.{form_of, forms_of}
use Rattle.append_text.specs.Meaning.Lines.{lines}
use Rattle.append_text.specs.Meaning.Notations.{after_blanks, begins_with}
use Rattle.append_text.specs.Meaning.Texts.{AreAllowed, IsFaultOf, IsHistory, IsHistoryOf, IsWrongAfter, counted}

-- the text is one of JSON, of this value
abbrev pub IsJson : List ℕ → Data → Type 0
IsJson text d = IsUtf8 text × (read text ≡ Some d)

abbrev pub IsNoJson : List ℕ → Type 0
IsNoJson text = (d : Data) → IsJson text d → ⊥

-- `{`, and then the key `"history"`
abbrev pub begins_history : List ℕ → Bool
begins_history [] = false
begins_history (b ∷ bs) = (b == 123) && pointwise nat_eq (take 9 (after_blanks bs)) (codes "\"history\"")

abbrev pub begins_value : List ℕ → Bool
begins_value bytes = begins_with 91 bytes || begins_history bytes

-- the text begins with `[`, or with `{` and the key `"history"`: its first 8192 bytes decide
abbrev pub is_value : List ℕ → Bool
is_value text = begins_value (after_blanks (take 8192 text))

-- ---- one value

-- the elements of an array, or of the one that an object has as its `history`
abbrev pub elements_in : Data → Option Items
elements_in d = option_or (as_array d) (option_and_then as_array (get (codes "history") d))

-- the text is a value of JSON, whose elements stand for these forms
abbrev pub IsValue : List ℕ → List Form → Type 0
IsValue text fs = (d : Data) × (ds : Items) × IsJson text d × (elements_in d ≡ Some ds) × (fs ≡ listed (forms_of ds))

-- the element at this place is the first that is no operation, or can't come there
pub record HasWrong (fs : List Form) (place : ℕ) (p : Problem) : Type 0 where
  pub before : List Form
  pub form : Form
  pub after : List Form
  pub split : fs ≡ before ++ form ∷ after
  pub place_is : place ≡ length before
  pub wrong : IsWrongAfter notation.Json before form p

-- this is wrong with the text: it is no value of JSON that has elements (on which line isn't said), or an element is at fault
abbrev pub IsWrongInValue : List ℕ → Place → Problem → Type 0
IsWrongInValue text (Line line) p = (p ≡ problem.Json) × ((fs : List Form) → IsValue text fs → ⊥)
IsWrongInValue text (Element k) p = (fs : List Form) × IsValue text fs × HasWrong fs k p

-- ---- one value a line

-- what a line says: nothing if it is blank, else its value
pub data IsLine : List ℕ → List Form → Type 0 where
  blank : {line : List ℕ} → after_blanks line ≡ [] → IsLine line []
  value : {line : List ℕ} (d : Data) → IsJson line d → IsLine line (form_of d ∷ [])

pub data AreLines : List (List ℕ) → List Form → Type 0 where
  no_lines : AreLines [] []
  one_more : {ls : List (List ℕ)} {line : List ℕ} {fs gs : List Form} → AreLines ls fs → IsLine line gs
      → AreLines (ls ++ line ∷ []) (fs ++ gs)

-- this is wrong with a line after those of these forms, which are operations in order: it is neither blank nor a text of JSON,
-- or its value is no operation, or one that can't come there
abbrev pub IsWrongLine : List Form → List ℕ → Problem → Type 0
IsWrongLine fs line p =
    ((p ≡ problem.Json) × AreAllowed notation.Json fs × (after_blanks line ≢ []) × IsNoJson line)
    ⊎ ((d : Data) × IsJson line d × IsWrongAfter notation.Json fs (form_of d) p)

-- the line of this number, counted from 1, is the first with which something is wrong
pub record HasWrongLine (ls : List (List ℕ)) (number : ℕ) (p : Problem) : Type 0 where
  pub before : List (List ℕ)
  pub line : List ℕ
  pub after : List (List ℕ)
  pub split : ls ≡ before ++ line ∷ after
  pub number_is : number ≡ counted (suc (length before))
  pub forms : List Form
  pub say : AreLines before forms
  pub wrong : IsWrongLine forms line p

abbrev pub IsWrongInLines : List ℕ → Place → Problem → Type 0
IsWrongInLines text (Line line) p = HasWrongLine (lines text) line p
IsWrongInLines text (Element k) p = ⊥

-- ---- texts

-- what the text lists stands for these forms: the elements of one value, or else one value a line
abbrev pub AreValues : List ℕ → List Form → Type 0
AreValues text fs = MatchBool (is_value text) (IsValue text fs) (AreLines (lines text) fs)

-- the history that a text in JSON says
abbrev pub IsJsonHistoryOf : List ℕ → History → Type 0
IsJsonHistoryOf text h = (fs : List Form) × AreValues text fs × IsHistory notation.Json fs h

-- this is the first that is wrong with a text in JSON
abbrev pub IsJsonFaultOf : List ℕ → ReadFault → Type 0
IsJsonFaultOf text (Text place p) = MatchBool (is_value text) (IsWrongInValue text place p) (IsWrongInLines text place p)
IsJsonFaultOf text Device = Unit {0}
IsJsonFaultOf text Memory = Unit {0}

-- ---- in either notation

abbrev pub IsHistoryIn : TextForm → List ℕ → History → Type 0
IsHistoryIn notation.Edn = IsHistoryOf
IsHistoryIn notation.Json = IsJsonHistoryOf

abbrev pub IsFaultIn : TextForm → List ℕ → ReadFault → Type 0
IsFaultIn notation.Edn = IsFaultOf
IsFaultIn notation.Json = IsJsonFaultOf
