use Rattle.edn.specs.Meaning.Views.{form_of, forms_of}
use Rattle.append_text.proofs.EdnForms.{numbers_all, numbers_back}
use Rattle.append_text.proofs.edn_data.numbers_in.Goals as goal

pub loop-form-preserved : goal.loop-form-preserved
loop-form-preserved c = numbers_back (forms_of c.args.forms) (forms_of c.loop-form.left) (forms_of c.next_back.new.self)
    c.loop-form.place c.loop-form.numbers.items (form_of c.in-Some.form) c.in-Some-number.number c.loop-form.invariant
    c.in-Some.ensures.some c.in-Some-number.ensures

pub returns : goal.returns
returns c = numbers_all (forms_of c.args.forms) (forms_of c.loop-form.left) c.loop-form.place c.loop-form.numbers.items
    c.loop-form.invariant c.in_default.ensures.none.0
