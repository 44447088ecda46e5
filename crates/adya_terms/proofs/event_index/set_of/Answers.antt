use Rattle.std.proofs.Common.{◌∙◌, ◌==◌, ap}
use Rattle.std.specs.List.{list_any}
use Rattle.std.proofs.lemmas.List.{take_all}
use Rattle.std.proofs.lemmas.Result.{IfOk-from_err}
use Rattle.adya_terms.proofs.Compared.{any_held}
use Rattle.adya_terms.proofs.event_index.set_of.Goals as goal

pub loop-txn-preserved : goal.loop-txn-preserved
loop-txn-preserved c t =
    c.in_ok-insert.ensures.updates.0 t ∙
    any_held c.args.txns.now c.loop-txn.txn-index c.txn-item.result t _ c.loop-txn-test.true c.txn-item.is (c.loop-txn.invariant t)

pub returns-in_err-insert : goal.returns-in_err-insert
returns-in_err-insert c = IfOk-from_err _ _ c.from_residual.ensures.0

pub returns : goal.returns
returns c t =
    c.loop-txn.invariant t ∙ ap (list_any (λ u. u == t)) (take_all c.loop-txn.txn-index c.args.txns.now c.loop-txn-test.false)
