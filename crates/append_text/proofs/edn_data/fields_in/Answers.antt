use Rattle.edn.specs.Meaning.Views.{form_of, forms_of}
use Rattle.append_text.specs.declared.text_form.TextForm.TheVariants.{Edn}
use Rattle.append_text.specs.Machinery.EdnMaps.{key_of}
use Rattle.append_text.proofs.EdnForms.{fields_all, fields_back, fields_first, skips}
use Rattle.append_text.proofs.edn_data.fields_in.Goals as goal

pub returns-in_default-next_back : goal.returns-in_default-next_back
returns-in_default-next_back c =
    fields_first Edn form_of (forms_of c.args.forms) c.args.keys (forms_of c.loop-value.left) (forms_of c.next_back.new.self)
    c.loop-value.fields (form_of c.in-Some.value) c.loop-value.invariant c.requires c.in-Some.ensures.some
    c.in_default-next_back.ensures.none.0

pub loop-value-preserved-in-Some-word_of : goal.loop-value-preserved-in-Some-word_of
loop-value-preserved-in-Some-word_of c =
    let key = form_of c.in-Some-next_back.key in
    fields_back Edn form_of (forms_of c.args.forms) c.args.keys (forms_of c.loop-value.left) (forms_of c.next_back.new.self)
    (forms_of c.next_back-in-Some.new.self) c.loop-value.fields c.set_field.new.fields key (form_of c.in-Some.value)
    c.loop-value.invariant c.in-Some.ensures.some c.in-Some-next_back.ensures.some
    (λ namespace ps. c.set_field.ensures (key_of c.args.keys namespace key) ps (c.in-Some-word_of.ensures.some namespace))

pub loop-value-preserved : goal.loop-value-preserved
loop-value-preserved c =
    let key = form_of c.in-Some-next_back.key in
    fields_back Edn form_of (forms_of c.args.forms) c.args.keys (forms_of c.loop-value.left) (forms_of c.next_back.new.self)
    (forms_of c.next_back-in-Some.new.self) c.loop-value.fields c.loop-value.fields key (form_of c.in-Some.value)
    c.loop-value.invariant c.in-Some.ensures.some c.in-Some-next_back.ensures.some
    (λ namespace ps has. skips form_of c.loop-value.fields ps has (key_of c.args.keys namespace key) c.in-Some.value
    (c.in_default-word_of.ensures.none namespace))

pub returns : goal.returns
returns c =
    fields_all Edn form_of (forms_of c.args.forms) c.args.keys (forms_of c.loop-value.left) c.loop-value.fields
    c.loop-value.invariant c.requires c.in_default.ensures.none.0
