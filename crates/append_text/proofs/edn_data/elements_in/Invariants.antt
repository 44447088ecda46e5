use Rattle.std.proofs.Common.{◌≡◌, ◌++◌, length, map, reverse}
use Rattle.edn.specs.Meaning.Views.{form_of, forms_of}
use Rattle.append_text.proofs.edn_data.elements_in.Given as goal

abbrev pub invariant-loop-form : goal.invariant-loop-form
invariant-loop-form l = forms_of l.fn.forms ≡ forms_of l.left ++ reverse (map form_of l.elements.items)

abbrev pub decreases-loop-form : goal.decreases-loop-form
decreases-loop-form l = length (forms_of l.left)
