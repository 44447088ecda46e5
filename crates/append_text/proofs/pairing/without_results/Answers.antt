use Rattle.std.proofs.Common.{◌≡◌, ℕ, ◌+◌, ◌<◌, List, [], ◌∷◌, ◌++◌, map, take, length, get_or, sym, ap, ◌∙◌}
use Rattle.std.proofs.lemmas.List.{map-append, take_more, take_all}
use Rattle.append_values.specs.declared.transaction.Operation.{Operation}
use Rattle.append_values.specs.Meaning.Histories.{operation_of}
use Rattle.append_text.specs.Meaning.Steps.{without_result}
use Rattle.append_text.proofs.pairing.without_results.Goals as goal

step : (kept steps : List Operation) (i : ℕ) (x y : Operation) → i < length steps → x ≡ get_or steps i x
    → operation_of y ≡ without_result (operation_of x)
    → map operation_of kept ≡ map without_result (map operation_of (take i steps))
    → map operation_of (kept ++ y ∷ []) ≡ map without_result (map operation_of (take (i + 1) steps))
step kept steps i x y within is same so_far =
    let old = take i steps in
    map-append operation_of kept (y ∷ []) ∙ ap (λ r. r ++ operation_of y ∷ []) so_far
    ∙ ap (λ o. map without_result (map operation_of old) ++ o ∷ []) same
    ∙ sym (map-append without_result (map operation_of old) (operation_of x ∷ []))
    ∙ ap (map without_result) (sym (map-append operation_of old (x ∷ [])))
    ∙ ap (λ r. map without_result (map operation_of r)) (ap (λ z. old ++ z ∷ []) is ∙ sym (take_more steps i x within))

pub loop-step-preserved : goal.loop-step-preserved
loop-step-preserved c = ap (map operation_of) c.in_ok-push.ensures.items
    ∙ step c.loop-step.kept.items c.args.steps.now c.loop-step.step-index c.step-item.result c.without_result.result
    c.loop-step-test.true c.step-item.is c.without_result.ensures c.loop-step.invariant

pub returns : goal.returns
returns c = c.loop-step.invariant
    ∙ ap (λ r. map without_result (map operation_of r)) (take_all c.loop-step.step-index c.args.steps.now c.loop-step-test.false)
