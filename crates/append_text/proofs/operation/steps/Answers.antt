use Rattle.std.proofs.Common.{map, sym, subst}
use Rattle.std.proofs.lemmas.Result.{err_from_is_err_and}
use Rattle.append_text.specs.Meaning.Operations.{each, step}
use Rattle.append_text.specs.Machinery.Readings.{IsRefusal, IsStepValue}
use Rattle.append_text.proofs.Readings.{read_more, read_refused, value_keeps}
use Rattle.append_text.proofs.operation.steps.Goals as goal

pub returns-in_err-step : goal.returns-in_err-step
returns-in_err-step g c =
    let p = err_from_is_err_and c.from_residual-in_err-step.result c.from_residual-in_err-step.ensures.1 in
    rw p.1 (subst (λ e. IsRefusal e (each (step g.D.Data.notation) (map g.D.Data.form c.args.listed.now))) (sym p.2)
    (read_refused g.D.Data.form (step g.D.Data.notation) IsStepValue c.args.names.now.kept.keys c.loop-datum.names.kept.keys c.args.listed.now
    c.loop-datum.datum-index c.datum-item.result c.loop-datum.steps.items c.in_err-step.field-0.0 c.loop-datum-test.true
    c.datum-item.is c.loop-datum.invariant c.in_err-step.ensures))

pub loop-datum-preserved : goal.loop-datum-preserved
loop-datum-preserved g c = rw c.in_ok-push.ensures.items (read_more g.D.Data.form (step g.D.Data.notation) IsStepValue value_keeps
    c.args.names.now.kept.keys c.loop-datum.names.kept.keys c.step.new.names.kept.keys c.args.listed.now
    c.loop-datum.datum-index c.datum-item.result c.loop-datum.steps.items c.in_ok-step.field-0 c.loop-datum-test.true
    c.datum-item.is c.loop-datum.invariant c.in_ok-step.ensures)
