use Rattle.std.proofs.Common.{◌≡◌, ◌∙◌, ◌++◌, ◌∷◌, [], ◌+◌, ap, map, sym, take}
use Rattle.std.proofs.lemmas.List.{map-append, take_more}
use Rattle.adya_values.specs.Mirror.Events.{final_of}
use Rattle.adya_testing.proofs.histories.packed_finals.Goals as goal

pub loop-pair-preserved : goal.loop-pair-preserved
loop-pair-preserved c =
    let fs = c.args.finals.now in
    let i = c.loop-pair.pair-index in
    let f = c.pair-item.result in
    let more : take (i + 1) fs ≡ take i fs ++ f ∷ [] = take_more fs i f c.loop-pair-test.true ∙ ap (λ y. take i fs ++ y ∷ []) (sym c.pair-item.is) in
    c.in_ok-push.ensures.ok ∙ (ap (λ xs. xs ++ final_of f ∷ []) c.loop-pair.invariant ∙ sym (ap (map final_of) more ∙ map-append final_of (take i fs) (f ∷ [])))
