-- What forms stand for.
use Rattle.std.specs.Prelude.{◌≡◌, ◌%◌, List, take, reverse, length}
use Rattle.edn.specs.declared.form.Form.{Form as FormValue}
use Rattle.edn.specs.declared.form.Forms.{Forms}
use Rattle.edn.specs.declared.kind.Kind.{Kind}
use Rattle.edn.specs.declared.kind.Kind.TheVariants as Is
use Rattle.edn.specs.declared.tape.Row.TheVariants as Of
use Rattle.edn.specs.Meaning.Forms.{Form, nil, boolean, integer, number, string, character, keyword, symbol}
use Rattle.edn.specs.Meaning.Tapes.{collection, first_of, forms_in}

abbrev pub form_of : FormValue → Form
form_of f = first_of (forms_in f.nodes.now)

-- in the order of the text
abbrev pub forms_of : Forms → List Form
forms_of fs = reverse (take fs.left (forms_in fs.nodes.now))

abbrev pub kind_of : Kind → Form
kind_of Is.Nil = nil
kind_of (Is.Boolean b) = boolean b
kind_of (Is.Integer z) = integer z
kind_of (Is.Number text) = number text.now
kind_of (Is.String text) = string text.now
kind_of (Is.Character name) = character name.now
kind_of (Is.Keyword name) = keyword name.now
kind_of (Is.Symbol name) = symbol name.now
kind_of (Is.List fs) = collection Of.List (forms_of fs)
kind_of (Is.Vector fs) = collection Of.Vector (forms_of fs)
kind_of (Is.Set fs) = collection Of.Set (forms_of fs)
kind_of (Is.Map fs) = collection Of.Map (forms_of fs)
kind_of (Is.NamespacedMap fs) = collection Of.NamespacedMap (forms_of fs)

-- a map has an even number of forms: a value for each key. If it has a namespace, that is one more
abbrev pub IsPaired : Kind → Type 0
IsPaired (Is.Map fs) = length (forms_of fs) % 2 ≡ 0
IsPaired (Is.NamespacedMap fs) = length (forms_of fs) % 2 ≡ 1
IsPaired _ = Unit {0}
