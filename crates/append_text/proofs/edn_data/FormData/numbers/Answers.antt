use Rattle.std.proofs.Common.{List, sym, ap, subst, ◌∙◌, IfOk}
use Rattle.std.specs.Prelude.{IfSome}
use Rattle.std.specs.List.{AllZip}
use Rattle.edn.specs.Meaning.Views.{form_of, forms_of, kind_of}
use Rattle.append_text.specs.declared.name.Kept.{Kept}
use Rattle.append_text.specs.Meaning.Numbers.{IsNumber}
use Rattle.append_text.specs.Machinery.Readings.{Says}
use Rattle.append_text.proofs.EdnForms.{vector_names}
use Rattle.append_text.proofs.edn_data.FormData.numbers.Goals as goal

pub returns-in-Vector : goal.returns-in-Vector
returns-in-Vector c =
    subst (λ r. IfOk c.numbers_in.result (λ o. IfSome o (λ v. (kept : List Kept) → Says r (λ names. AllZip (IsNumber kept) names v.items))))
    (sym (vector_names (form_of c.args.self) (forms_of c.in-Vector.forms) (sym c.kind.ensures.form ∙ ap kind_of c.in-Vector.is)))
    c.numbers_in.ensures
