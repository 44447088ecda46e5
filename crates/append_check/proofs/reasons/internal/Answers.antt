use Rattle.std.proofs.Common.{◌∙◌}
use Rattle.append_check.specs.Meaning.Verdicts.{history_of}
use Rattle.append_check.proofs.Holding.{not_true, internal_holds}
use Rattle.append_check.proofs.reasons.internal.Goals as goal

pub returns : goal.returns
returns c b =
    internal_holds (history_of c.args.transactions.now) c.args.read c.in-Some.seen c.in-Some.ensures c.as_slice.result.now
    (c.as_slice.ensures.value ∙ c.in_ok-own.ensures) (c.ends_with-ends.ensures.no (not_true c.ends_with-ends.result b))
