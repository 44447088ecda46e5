use Rattle.std.proofs.Common.{arith}
use Rattle.append_check.specs.Meaning.Verdicts.{history_of}
use Rattle.append_check.proofs.Holding.{twice_holds}
use Rattle.append_check.proofs.reasons.twice.Goals as goal

pub returns : goal.returns
returns c b =
    let more = rw c.times-often.ensures at b in
    twice_holds (history_of c.args.transactions.now) c.args.read c.in-Some.seen c.in-Some.ensures c.args.element (grind (arith, more))
