use Rattle.std.proofs.Common.{◌∙◌, ap, falls, [], ◌∷◌, ◌++◌, take, sym, subst}
use Rattle.std.proofs.lemmas.Bool.{false≢true}
use Rattle.std.proofs.lemmas.Result.{IfOk-from_err}
use Rattle.std.proofs.lemmas.List.{take_all, take_more}
use Rattle.adya_keys.specs.Meaning.Keys.{IsTxn}
use Rattle.adya_dsg.proofs.nodes.serial_of.Goals as goal

pub returns : goal.returns
returns c =
    ap (λ v. v.items) c.new-2.ensures ∙
    (c.loop-n.invariant ∙ take_all c.loop-n.n-index c.args.nodes.now c.loop-n-test.false)

pub loop-n-init : goal.loop-n-init
loop-n-init c = c.new-txns.ensures.items

pub bounds-nodes-n-index : goal.bounds-nodes-n-index
bounds-nodes-n-index c = c.loop-n-test.true

pub from-requires : goal.from-requires
from-requires c = tt

pub new-requires : goal.new-requires
new-requires c = tt

pub new-requires-2 : goal.new-requires-2
new-requires-2 c = tt

pub returns-in_err-push : goal.returns-in_err-push
returns-in_err-push c = IfOk-from_err c.from_residual.result _ c.from_residual.ensures.0

pub loop-n-smaller : goal.loop-n-smaller
loop-n-smaller c = falls _ _ c.loop-n-test.true

pub loop-n-preserved : goal.loop-n-preserved
loop-n-preserved c =
    let nodes = c.args.nodes.now in
    let i = c.loop-n.n-index in
    c.in_ok-push.ensures.items ∙
    (ap (λ ts. ts ++ c.in-Ok.txn ∷ []) c.loop-n.invariant ∙
    (ap (λ t. take i nodes ++ t ∷ []) (c.in-Ok.ensures.same ∙ c.from.ensures) ∙ sym (take_more nodes i 0 c.loop-n-test.true)))

pub unreachable-requires : goal.unreachable-requires
unreachable-requires c =
    let is = c.requires c.loop-n.n-index 0 c.loop-n-test.true in
    false≢true (c.in_default.ensures.limits.1 (subst IsTxn (sym c.from.ensures) is))
