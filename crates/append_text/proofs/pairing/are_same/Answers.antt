use Rattle.std.proofs.Common.{rules, sym, ◌∙◌}
use Rattle.std.proofs.lemmas.Bool.{both_ways}
use Rattle.append_text.proofs.SameSteps.{same_items}
use Rattle.append_text.proofs.pairing.are_same.Goals as goal

pub returns-then-not-is_same-clause-differ : goal.returns-then-not-is_same-clause-differ
returns-then-not-is_same-clause-differ c = λ same.
    both_ways _ (sym c.is_same.ensures ∙ c.if-not-is_same.true)
    (same_items c.args.some.now c.args.others.now c.loop-i.i c.index-some-i.result c.index-others-i.result same
    (search rules) (search rules) (search rules))
