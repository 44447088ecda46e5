-- The form that a value of JSON stands for.
use Rattle.std.specs.Prelude.{ℤ, [], Option, Some, None}
use Rattle.serde_json.specs.Data.{Data, Items, Members, null, boolean, number, string, array, object, no_items, item, no_members, member}
use Rattle.serde_json.specs.Find.{as_i64}
use Rattle.edn.specs.Meaning.Forms.{Form, Forms, Pairs, nil, integer, vector, entries, no_forms, form, no_pairs, pair, boolean as boolean_form, number as number_form, string as string_form}

-- what is written of a number that is no integer of 64 bits is left out: it is no key, no element and no index
abbrev pub form_of_integer : Option ℤ → Form
form_of_integer (Some z) = integer z
form_of_integer None = number_form []

abbrev mutual
  pub form_of : Data → Form
  form_of null = nil
  form_of (boolean b) = boolean_form b
  form_of (number n) = form_of_integer (as_i64 n)
  form_of (string bytes) = string_form bytes
  form_of (array ds) = vector (forms_of ds)
  form_of (object ms) = entries (pairs_of ms)

  pub forms_of : Items → Forms
  forms_of no_items = no_forms
  forms_of (item d ds) = form (form_of d) (forms_of ds)

  pub pairs_of : Members → Pairs
  pairs_of no_members = no_pairs
  pairs_of (member name d ms) = pair (string_form name) (form_of d) (pairs_of ms)
