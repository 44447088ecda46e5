use Rattle.std.proofs.Common.{◌≡◌, ◌∷◌, ◌++◌, ◌∙◌, ap, map, drop, sym}
use Rattle.append_values.specs.Meaning.Histories.{operation_of}
use Rattle.append_values.specs.Meaning.Reads.{appended}
use Rattle.append_check.specs.Meaning.Verdicts.{history_of}
use Rattle.append_check.proofs.Holding.{not_true, unrepeatable_holds}
use Rattle.append_check.proofs.reasons.unrepeatable.Goals as goal

pub returns : goal.returns
returns c b =
    let s = c.in-Some.one in
    let u = c.in-Some-look_at.other in
    let between = c.in-Some-split_first.between.now in
    let f = c.in-Some-split_first.field-0-0.now in
    let later : drop c.args.first.step u.before.now ≡ f ∷ between = sym c.split_at.ensures.back ∙ c.in-Some-split_first.ensures.cases.0 in
    let is : c.as_slice-2.result.now ≡ s.elements.now ++ appended s.key (map operation_of between) =
    c.as_slice-2.ensures.value ∙
    (c.in_ok-extend_from_slice.ensures.items ∙
    (ap (λ ys. ys ++ c.as_slice.result.now) c.in_ok-wanted.ensures.items ∙
    ap (λ ys. s.elements.now ++ ys) (c.as_slice.ensures.value ∙ c.in_ok-appended.ensures))) in
    unrepeatable_holds (history_of c.args.transactions.now) c.args.first c.args.second s u c.in-Some.ensures c.in-Some-look_at.ensures
    c.if-first-second.false c.if-one-other.false c.if-other-first.false between f later c.as_slice-2.result.now is
    (c.same-unchanged.ensures (not_true c.same-unchanged.result b))
