use Rattle.std.proofs.Common.{[], ◌∷◌, sym, subst, ◌∙◌}
use Rattle.std.proofs.lemmas.List.{append-nil}
use Rattle.serde_json.specs.View.{view}
use Rattle.append_text.specs.declared.text_form.TextForm.TheVariants.{Json}
use Rattle.append_text.specs.Meaning.Json.{form_of}
use Rattle.append_text.specs.Meaning.JsonTexts.{value}
use Rattle.append_text.specs.Machinery.Collectors.{HasCollected}
use Rattle.append_text.specs.Machinery.JsonReading.{IsRefusedLine}
use Rattle.append_text.proofs.JsonReadings.{blank_line, refused_line}
use Rattle.append_text.proofs.json_text.take_line.Goals as goal

pub returns-then-is_empty-clause-taken : goal.returns-then-is_empty-clause-taken
returns-then-is_empty-clause-taken c = λ fs has. (
  [],
  blank_line c.args.line.now c.after_blanks.result.now c.after_blanks.ensures (sym c.is_empty.ensures ∙ c.if-is_empty.true),
  subst (λ gs. HasCollected Json gs c.args.collector.now) (sym (append-nil fs)) has,
)

pub returns-in-Ok-take-clause-taken : goal.returns-in-Ok-take-clause-taken
returns-in-Ok-take-clause-taken c = λ fs has.
    (form_of (view c.in-Ok.value) ∷ [], value (view c.in-Ok.value) c.in-Ok.ensures.ok, c.in-Ok-take.ensures.taken fs has)

pub returns-clause-refused : goal.returns-clause-refused
returns-clause-refused c = λ fs has.
    subst (IsRefusedLine c.args.number fs c.args.line.now) (sym c.at.ensures)
    (refused_line c.args.number fs c.args.line.now (view c.in-Ok.value) c.in-Err-take.refusal c.in-Ok.ensures.ok
    (c.in-Err-take.ensures.refused fs has))
