use Rattle.std.proofs.Common.{map, sym, subst}
use Rattle.std.proofs.lemmas.Result.{err_from_is_err_and}
use Rattle.append_text.specs.Meaning.Numbers.{IsNumber}
use Rattle.append_text.specs.Meaning.Operations.{each, name}
use Rattle.append_text.specs.Machinery.Readings.{IsRefusal}
use Rattle.append_text.proofs.Readings.{read_more, read_refused}
use Rattle.append_text.proofs.operation.numbers.Goals as goal

pub returns-in_err-number : goal.returns-in_err-number
returns-in_err-number g c =
    let p = err_from_is_err_and c.from_residual-in_err-number.result c.from_residual-in_err-number.ensures.1 in
    rw p.1 (subst (λ e. IsRefusal e (each name (map g.D.Data.form c.args.listed.now))) (sym p.2)
    (read_refused g.D.Data.form name IsNumber c.args.names.now.kept.keys c.loop-datum.names.kept.keys c.args.listed.now
    c.loop-datum.datum-index c.datum-item.result c.loop-datum.numbers.items c.in_err-number.field-0.0 c.loop-datum-test.true
    c.datum-item.is c.loop-datum.invariant c.in_err-number.ensures))

pub loop-datum-preserved : goal.loop-datum-preserved
loop-datum-preserved g c = rw c.in_ok-push.ensures.items (read_more g.D.Data.form name IsNumber (λ old new keeps. keeps)
    c.args.names.now.kept.keys c.loop-datum.names.kept.keys c.number.new.names.kept.keys c.args.listed.now
    c.loop-datum.datum-index c.datum-item.result c.loop-datum.numbers.items c.in_ok-number.field-0 c.loop-datum-test.true
    c.datum-item.is c.loop-datum.invariant c.in_ok-number.ensures)
