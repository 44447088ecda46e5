use Rattle.std.proofs.Common.{sym, ap, ◌∙◌}
use Rattle.edn.specs.Meaning.Views.{form_of, forms_of, kind_of}
use Rattle.append_text.proofs.EdnForms.{vector_elements, list_elements}
use Rattle.append_text.proofs.edn_data.forms_in.Goals as goal

pub returns-in-Vector : goal.returns-in-Vector
returns-in-Vector c = vector_elements (form_of c.args.form) (forms_of c.in-Vector.forms) (sym c.kind.ensures.form ∙ ap kind_of c.in-Vector.is)

pub returns-in-List : goal.returns-in-List
returns-in-List c = list_elements (form_of c.args.form) (forms_of c.in-List.forms) (sym c.kind.ensures.form ∙ ap kind_of c.in-List.is)
