use Rattle.std.proofs.Common.{◌+◌, ◌∙◌, Some, length, drop, refl, sym, ap}
use Rattle.std.proofs.lemmas.Bool.{eqb-true, eqb-false}
use Rattle.std.proofs.lemmas.List.{drop_all}
use Rattle.std.proofs.lemmas.Option.{slice_get_read}
use Rattle.lemmas.proofs.Counts.{count, count_other}
use Rattle.lemmas.proofs.Steps.{drop_step}
use Rattle.adya_terms.proofs.line_writers.any_place.Goals as goal

pub loop-i-init : goal.loop-i-init
loop-i-init c = refl

pub returns-then-eq : goal.returns-then-eq
returns-then-eq c =
    let ts = c.args.writers.now in
    slice_get_read ts (length ts) c.loop-i.i c.index-writers-i.result refl c.loop-i-test.true c.index-writers-i.is ∙
    ap Some (eqb-true _ _ (sym c.eq.ensures ∙ c.if-eq.true))

pub loop-i-preserved : goal.loop-i-preserved
loop-i-preserved c =
    let ts = c.args.writers.now in
    let i = c.loop-i.i in
    let u = c.index-writers-i.result in
    c.loop-i.invariant ∙
    (ap (λ us. count us c.args.txn) (drop_step ts i u c.loop-i-test.true c.index-writers-i.is) ∙
    count_other u (drop (i + 1) ts) c.args.txn (eqb-false _ _ (sym c.eq.ensures ∙ c.if-eq.false)))

pub returns : goal.returns
returns c =
    c.loop-i.invariant ∙ ap (λ us. count us c.args.txn) (drop_all c.loop-i.i c.args.writers.now c.loop-i-test.false)
