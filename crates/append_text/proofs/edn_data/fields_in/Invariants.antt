use Rattle.std.proofs.Common.{length}
use Rattle.edn.specs.Meaning.Views.{form_of, forms_of}
use Rattle.append_text.specs.declared.text_form.TextForm.TheVariants.{Edn}
use Rattle.append_text.proofs.EdnForms.{HasFieldsBack}
use Rattle.append_text.proofs.edn_data.fields_in.Given as goal

abbrev pub invariant-loop-value : goal.invariant-loop-value
invariant-loop-value l = HasFieldsBack l.keys Edn form_of (forms_of l.fn.forms) (forms_of l.left) l.fields

abbrev pub decreases-loop-value : goal.decreases-loop-value
decreases-loop-value l = length (forms_of l.left)
