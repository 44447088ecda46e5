use Rattle.std.proofs.Common.{◌≡◌, ◌++◌, Some, None, refl, sym, ap, subst, ◌∙◌}
use Rattle.std.specs.Prelude.{IsUtf8}
use Rattle.serde_json.specs.Errors.{IsMemory}
use Rattle.serde_json.specs.Read.{read}
use Rattle.serde_json.specs.View.{items_view, view}
use Rattle.append_text.specs.Meaning.JsonTexts.{elements_in}
use Rattle.append_text.proofs.JsonReadings.{value_text, elements_fault, elements_history, forms_in, no_json_value, other_text}
use Rattle.append_text.proofs.json_text.json_value.Goals as goal

pub returns-in-Err-clause-fault : goal.returns-in-Err-clause-fault
returns-in-Err-clause-fault g c = λ text has.
    let same : c.deref.result.now ≡ text =
    c.deref.ensures.value ∙ c.in_ok-read_to_end.ensures.all text has ∙ ap (λ r. r ++ text) c.new-text.ensures.items in
    no_json_value text (IsMemory c.in-Err.error) c.line.result c.from_json.result c.from_json.ensures
    (subst (λ t. ¬ IsMemory c.in-Err.error → IsUtf8 t → read t ≡ None) same c.in-Err.ensures.err)

pub returns-in_default-clause-fault : goal.returns-in_default-clause-fault
returns-in_default-clause-fault g c = λ text has.
    let same : c.deref.result.now ≡ text =
    c.deref.ensures.value ∙ c.in_ok-read_to_end.ensures.all text has ∙ ap (λ r. r ++ text) c.new-text.ensures.items in
    (refl, other_text text (view c.in-Ok.value) (subst (λ t. read t ≡ Some (view c.in-Ok.value)) same c.in-Ok.ensures.ok.1) (sym c.in_default.ensures))

pub returns-clause-history : goal.returns-clause-history
returns-clause-history g c = λ text has.
    let same : c.deref.result.now ≡ text =
    c.deref.ensures.value ∙ c.in_ok-read_to_end.ensures.all text has ∙ ap (λ r. r ++ text) c.new-text.ensures.items in
    let d = view c.in-Ok.value in
    elements_history text c.history_of.result (forms_in c.as_slice.result.now) (value_text text d c.as_slice.result.now
    (subst IsUtf8 same c.in-Ok.ensures.ok.0) (subst (λ t. read t ≡ Some d) same c.in-Ok.ensures.ok.1)
    (subst (λ vs. Some (items_view vs) ≡ elements_in d) (sym c.as_slice.ensures.value) c.in-Some.ensures)) c.history_of.ensures.history

pub returns-clause-fault : goal.returns-clause-fault
returns-clause-fault g c = λ text has.
    let same : c.deref.result.now ≡ text =
    c.deref.ensures.value ∙ c.in_ok-read_to_end.ensures.all text has ∙ ap (λ r. r ++ text) c.new-text.ensures.items in
    let d = view c.in-Ok.value in
    elements_fault text c.history_of.result (forms_in c.as_slice.result.now) (value_text text d c.as_slice.result.now
    (subst IsUtf8 same c.in-Ok.ensures.ok.0) (subst (λ t. read t ≡ Some d) same c.in-Ok.ensures.ok.1)
    (subst (λ vs. Some (items_view vs) ≡ elements_in d) (sym c.as_slice.ensures.value) c.in-Some.ensures)) c.history_of.ensures.fault
