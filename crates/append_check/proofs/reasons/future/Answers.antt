use Rattle.std.proofs.Common.{◌∙◌}
use Rattle.append_check.specs.Meaning.Verdicts.{history_of}
use Rattle.append_check.proofs.Holding.{future_holds}
use Rattle.append_check.proofs.reasons.future.Goals as goal

pub returns : goal.returns
returns c b =
    future_holds (history_of c.args.transactions.now) c.args.read c.in-Some.seen c.in-Some.ensures c.args.element c.as_slice.result.now
    (c.as_slice.ensures.value ∙ c.in_ok-later_ones.ensures) (c.has.ensures.yes c.if-not-has.false) (c.has-is_later.ensures.yes b)
