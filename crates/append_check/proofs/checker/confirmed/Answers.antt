use Rattle.std.proofs.Common.{length, subst}
use Rattle.std.specs.List.{Contains}
use Rattle.append_check.specs.Meaning.Verdicts.{history_of}
use Rattle.append_check.proofs.Firsts.{some_there, first_contained, others_contained}
use Rattle.append_check.proofs.checker.confirmed.Goals as goal

pub returns-clause-right : goal.returns-clause-right
returns-clause-right c =
    let others = c.in_ok-others.others in
    let first = c.remove-first.result in
    let more = some_there others.len (length others.items) c.is_empty.result others.ok.0 c.is_empty.ensures c.if-is_empty.false in
    let there = c.in_ok-others.ensures first (first_contained others.items first more c.remove-first.ensures.value) in
    (there, c.reasons_refute.ensures (history_of c.args.transactions.now) first.reason c.requires.differ c.requires.once there)

pub returns-clause-others : goal.returns-clause-others
returns-clause-others c counted there =
    let others = c.in_ok-others.others in
    c.in_ok-others.ensures counted
    (others_contained others.items counted (subst (λ items. Contains items counted) c.remove-first.ensures.items there))
