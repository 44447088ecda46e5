use Rattle.std.proofs.Common.{true, sym, subst}
use Rattle.std.proofs.lemmas.Result.{err_from_is_err_and}
use Rattle.append_text.specs.declared.text_form.TextForm.TheVariants.{Json}
use Rattle.append_text.specs.Machinery.BufferTexts.{TakesLine}
use Rattle.append_text.specs.Machinery.JsonReading.{AreRefusedLines}
use Rattle.append_text.proofs.JsonReadings.{all_lines, read_line, read_none, wrong_line}
use Rattle.append_text.proofs.json_text.json_lines.Goals as goal

pub loop-line-init : goal.loop-line-init
loop-line-init g c = λ text has. (text, has, read_none text c.new-collector.result (c.new-collector.ensures Json))

pub loop-line-preserved : goal.loop-line-preserved
loop-line-preserved g c = λ text has.
    let (rest, left, have) = c.loop-line.invariant text has in
    let (more, next, takes) = c.in_ok-next_line.ensures.line rest left in (
      more,
      next,
      read_line text rest more c.deref.result.now c.loop-line.number c.saturating_add-number.result c.loop-line.collector have
          (subst (λ l. TakesLine true rest l more) (sym c.deref.ensures.value)
          (subst (λ b. TakesLine b rest c.next_line.new.line.items more) c.if-branch.true takes))
          c.saturating_add-number.ensures c.take_line.new.collector c.in_ok-take_line.ensures.taken,
    )

pub returns-in_err-take_line-clause-fault : goal.returns-in_err-take_line-clause-fault
returns-in_err-take_line-clause-fault g c = λ text has.
    let (rest, left, have) = c.loop-line.invariant text has in
    let (more, next, takes) = c.in_ok-next_line.ensures.line rest left in
    let p = err_from_is_err_and c.from_residual-in_err-take_line.result c.from_residual-in_err-take_line.ensures.1 in
    rw p.1 (subst (AreRefusedLines text) (sym p.2)
    (wrong_line text rest more c.deref.result.now c.loop-line.number c.saturating_add-number.result c.loop-line.collector have
    (subst (λ l. TakesLine true rest l more) (sym c.deref.ensures.value)
    (subst (λ b. TakesLine b rest c.next_line.new.line.items more) c.if-branch.true takes))
    c.saturating_add-number.ensures c.in_err-take_line.field-0.0 c.in_err-take_line.ensures.refused))

pub returns-clause-history : goal.returns-clause-history
returns-clause-history g c = λ text has.
    let (rest, left, have) = c.loop-line.invariant text has in
    let (more, next, takes) = c.in_ok-next_line.ensures.line rest left in (
      have.forms,
      all_lines text rest c.next_line.new.line.items more c.loop-line.number c.loop-line.collector have
          (subst (λ b. TakesLine b rest c.next_line.new.line.items more) c.if-branch.false takes),
      c.finish.ensures Json have.forms have.collected,
    )
