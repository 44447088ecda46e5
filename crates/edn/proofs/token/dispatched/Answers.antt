use Rattle.edn.proofs.token.dispatched.Goals as goal

pub returns-in-empty-clause-within : goal.returns-in-empty-clause-within
returns-in-empty-clause-within c = c.unfinished.ensures.within c.args.text.now
