use Rattle.std.proofs.Common.{◌==◌, ◌&&◌, ◌||◌, take, get_or, ap, sym, ◌∙◌, falls}
use Rattle.std.proofs.lemmas.Result.{IfOk-from_err}
use Rattle.std.specs.List.{list_any}
use Rattle.std.specs.Ordering.{is_eq}
use Rattle.std.specs.BTreeSet.{contains}
use Rattle.std.proofs.lemmas.List.Folds.{list_any_more}
use Rattle.lemmas.proofs.Booleans.{cond_or}
use Rattle.digraph.specs.declared.arc.Arc.{Arc}
use Rattle.adya_dsg.specs.Machinery.Along.{ends_cmp}
use Rattle.adya_dsg.proofs.FirstAlong.{ends_tied}
use Rattle.adya_dsg.proofs.along.ends_of.Goals as goal

pub loop-a-preserved : goal.loop-a-preserved
loop-a-preserved c q =
    let cycle = c.args.cycle.now in
    let i = c.loop-a.a-index in
    let none : Arc = record { from = 0; to = 0 } in
    let a = get_or cycle i none in
    let has = λ (x : Arc). (x.from == q.0) && (x.to == q.1) in
    let here = is_eq (ends_cmp (a.from, a.to) q) in
    c.in_ok-insert.ensures.updates.0 q ∙
    (cond_or here (contains ends_cmp c.loop-a.ends q) ∙
    (ap (λ b. b || here) (c.loop-a.invariant q) ∙
    (ap (λ b. list_any has (take i cycle) || b) (ends_tied (a.from, a.to) q) ∙
    sym (list_any_more has cycle i none c.loop-a-test.true))))

pub bounds-cycle-a-index : goal.bounds-cycle-a-index
bounds-cycle-a-index c = c.loop-a-test.true

pub returns-in_err-insert : goal.returns-in_err-insert
returns-in_err-insert c = IfOk-from_err c.from_residual.result _ c.from_residual.ensures.0

pub loop-a-smaller : goal.loop-a-smaller
loop-a-smaller c = falls _ _ c.loop-a-test.true
