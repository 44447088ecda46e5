use Rattle.append_check.proofs.reasons.cycle.Goals as goal

pub returns : goal.returns
returns c b =
    let simple = c.in_ok-simple.ensures b in (c.in_ok-closes.ensures c.if-not-closes.false, simple.0, simple.1)
