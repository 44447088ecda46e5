use Rattle.std.proofs.Common.{◌∙◌}
use Rattle.append_check.specs.Meaning.Verdicts.{history_of}
use Rattle.append_check.proofs.Holding.{not_true, incompatible_holds}
use Rattle.append_check.proofs.reasons.incompatible.Goals as goal

pub returns : goal.returns
returns c b =
    incompatible_holds (history_of c.args.transactions.now) c.args.one c.args.other c.in-Some.first c.in-Some-look_at.second
    c.in-Some.ensures c.in-Some-look_at.ensures c.if-first-second.false c.if-one-other.false c.as_slice-mine.result.now c.as_slice-theirs.result.now
    (c.as_slice-mine.ensures.value ∙ c.in_ok-mine.ensures) (c.as_slice-theirs.ensures.value ∙ c.in_ok-theirs.ensures)
    (c.begins_with.ensures.no c.if-begins_with.false) (c.begins_with-begins.ensures.no (not_true c.begins_with-begins.result b))
