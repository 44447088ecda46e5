use Rattle.std.proofs.Common.{sym, ◌∙◌, rules}
use Rattle.edn.specs.Computing.Gaps.{after_gap}
use Rattle.edn.proofs.Gaps.{no_gap_in, one_gap_in}
use Rattle.edn.proofs.gap.after_gap.Goals as goal

pub returns-in_default-after_one-clause-value : goal.returns-in_default-after_one-clause-value
unfolding after_gap
returns-in_default-after_one-clause-value c =
    sym (no_gap_in c.loop-rest.rest.now c.in-len1-up.len_at_least (sym c.in_default-after_one.ensures.value))
    ∙ c.loop-rest.invariant.0

pub loop-rest-preserved : goal.loop-rest-preserved
loop-rest-preserved c =
    let one = one_gap_in c.loop-rest.rest.now c.in-Some.after.now c.in-len1-up.len_at_least (sym c.in-Some.ensures.value) in
    (sym one ∙ c.loop-rest.invariant.0, search rules)
