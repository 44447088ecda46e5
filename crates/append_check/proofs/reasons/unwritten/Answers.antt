use Rattle.append_check.specs.Meaning.Verdicts.{history_of}
use Rattle.append_check.proofs.Holding.{unwritten_holds}
use Rattle.append_check.proofs.reasons.unwritten.Goals as goal

pub returns : goal.returns
returns c b =
    unwritten_holds (history_of c.args.transactions.now) c.args.read c.in-Some.seen c.in-Some.ensures c.args.element
    (c.has.ensures.yes c.if-not-has.false) (c.nobody_appends.ensures b)
