use Rattle.std.proofs.Common.{◌++◌, map, sym, ap, subst, ◌∙◌}
use Rattle.std.proofs.lemmas.Result.{IfErr-weaker, on_ok_weaker}
use Rattle.edn.specs.Meaning.Views.{form_of, forms_of}
use Rattle.append_text.specs.declared.text_form.TextForm.TheVariants.{Edn}
use Rattle.append_text.specs.Machinery.Collectors.{HasCollected}
use Rattle.append_text.specs.Machinery.EdnFaults.{IsRefusedForm}
use Rattle.append_text.proofs.EdnForms.{listed_parts}
use Rattle.append_text.proofs.TextFaults.{listed_refused, one_refused}
use Rattle.append_text.proofs.edn_text.take_form.Goals as goal

pub returns-in-Some-clause-taken : goal.returns-in-Some-clause-taken
returns-in-Some-clause-taken c =
    on_ok_weaker c.take_listed.result (λ took fs has. subst (λ gs. HasCollected Edn (fs ++ gs) c.take_listed.new.collector)
    (sym (listed_parts (form_of c.args.form) (forms_of c.in-Some.forms) (map form_of c.as_slice.result.now) c.in-Some.ensures.some
    (ap (map form_of) c.as_slice.ensures.value ∙ c.in_ok-elements_in.ensures))) (took fs has)) c.take_listed.ensures.taken

pub returns-in-Some-clause-refused : goal.returns-in-Some-clause-refused
returns-in-Some-clause-refused c =
    IfErr-weaker c.take_listed.result _ _ (λ e refused fs has. listed_refused fs (forms_of c.in-Some.forms) (map form_of c.as_slice.result.now)
    (form_of c.args.form) c.args.line e c.in-Some.ensures.some (ap (map form_of) c.as_slice.ensures.value ∙ c.in_ok-elements_in.ensures)
    (refused fs has)) c.take_listed.ensures.refused

pub returns-in-Err-clause-refused : goal.returns-in-Err-clause-refused
returns-in-Err-clause-refused c = λ fs has.
    subst (IsRefusedForm fs (form_of c.args.form) c.args.line) (sym c.at.ensures)
    (one_refused fs (form_of c.args.form) c.args.line c.in-Err.refusal c.in_default.ensures.none (c.in-Err.ensures.refused fs has))
