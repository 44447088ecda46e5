use Rattle.std.proofs.Common.{◌∙◌, ◌++◌, ◌∷◌, ◌≤◌, [], ap, arith, get_or, length, sym}
use Rattle.std.proofs.lemmas.List.{take_all, take_more}
use Rattle.std.proofs.lemmas.Result.{IfOk-from_err, IfOk-weaker}
use Rattle.adya_keys.specs.Machinery.Indices.{indices_in}
use Rattle.adya_keys.proofs.indices.Indices.widened.Goals as goal

pub returns-in_err-wide-in-Small : goal.returns-in_err-wide-in-Small
returns-in_err-wide-in-Small c = IfOk-from_err c.from_residual.result _ c.from_residual.ensures.0

pub loop-number-init : goal.loop-number-init
loop-number-init c = c.in_ok-wide-in-Small.ensures.items

pub loop-number-preserved : goal.loop-number-preserved
loop-number-preserved c =
    let ns = c.as_slice-number-items.result.now in
    let i = c.loop-number.number-index in
    c.in_ok-push-in-Small.ensures.items ∙
    (ap (λ xs. xs ++ get_or ns i 0 ∷ []) c.loop-number.invariant ∙ sym (take_more ns i 0 c.loop-number-test.true))

pub returns-in_err-push-in-Small : goal.returns-in_err-push-in-Small
returns-in_err-push-in-Small c = IfOk-from_err c.from_residual-in_err-push-in-Small.result _ c.from_residual-in_err-push-in-Small.ensures.0

pub returns-after-loop-number : goal.returns-after-loop-number
returns-after-loop-number c =
    let ns = c.as_slice-number-items.result.now in
    let past : length ns ≤ c.loop-number.number-index = omega (arith, c.loop-number-test.false) in
    c.loop-number.invariant ∙ (take_all c.loop-number.number-index ns past ∙ (c.as_slice-number-items.ensures.value ∙ ap indices_in (sym c.in-Small.is)))

pub returns-in-Large : goal.returns-in-Large
returns-in-Large c =
    IfOk-weaker c.from_slice.result _ _ (λ v p. p ∙ (c.deref.ensures.value ∙ ap indices_in (sym c.in-Large.is))) c.from_slice.ensures.items
