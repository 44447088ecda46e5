use Rattle.ssi_data.proofs.turns.hand_on.Goals as goal

pub returns-in-Err-clause-serves : goal.returns-in-Err-clause-serves
returns-in-Err-clause-serves g c = λ n began calls s.
    c.closed.ensures.serves n began calls (c.in-Err.ensures.serves n began calls s)
