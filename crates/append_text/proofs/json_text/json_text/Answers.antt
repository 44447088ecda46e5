use Rattle.std.proofs.Common.{◌≡◌, true, false, sym, ap, ◌∙◌}
use Rattle.append_text.specs.Meaning.JsonTexts.{begins_value, is_value}
use Rattle.append_text.specs.Meaning.Notations.{after_blanks}
use Rattle.append_text.proofs.JsonReadings.{lines_fault, lines_history, value_fault, value_history}
use Rattle.append_text.proofs.json_text.json_text.Goals as goal

pub returns-then-begins_value-clause-history : goal.returns-then-begins_value-clause-history
returns-then-begins_value-clause-history g c = λ text start has.
    let is : is_value text ≡ true = ap (λ p. begins_value (after_blanks p)) (sym (c.pending.ensures ∙ c.in_ok-fill_up.ensures.first text start has))
    ∙ sym c.begins_value.ensures ∙ c.if-begins_value.true in
    value_history text c.json_value.result is (c.json_value.ensures.history text (c.in_ok-fill_up.ensures.kept text has))

pub returns-then-begins_value-clause-fault : goal.returns-then-begins_value-clause-fault
returns-then-begins_value-clause-fault g c = λ text start has.
    let is : is_value text ≡ true = ap (λ p. begins_value (after_blanks p)) (sym (c.pending.ensures ∙ c.in_ok-fill_up.ensures.first text start has))
    ∙ sym c.begins_value.ensures ∙ c.if-begins_value.true in
    value_fault text c.json_value.result is (c.json_value.ensures.fault text (c.in_ok-fill_up.ensures.kept text has))

pub returns-clause-history : goal.returns-clause-history
returns-clause-history g c = λ text start has.
    let is : is_value text ≡ false = ap (λ p. begins_value (after_blanks p)) (sym (c.pending.ensures ∙ c.in_ok-fill_up.ensures.first text start has))
    ∙ sym c.begins_value.ensures ∙ c.if-begins_value.false in
    lines_history text c.json_lines.result is (c.json_lines.ensures.history text (c.in_ok-fill_up.ensures.kept text has))

pub returns-clause-fault : goal.returns-clause-fault
returns-clause-fault g c = λ text start has.
    let is : is_value text ≡ false = ap (λ p. begins_value (after_blanks p)) (sym (c.pending.ensures ∙ c.in_ok-fill_up.ensures.first text start has))
    ∙ sym c.begins_value.ensures ∙ c.if-begins_value.false in
    lines_fault text c.json_lines.result is (c.json_lines.ensures.fault text (c.in_ok-fill_up.ensures.kept text has))
