use Rattle.edn.proofs.token.quoted.Goals as goal

pub returns-in-Open-clause-within : goal.returns-in-Open-clause-within
returns-in-Open-clause-within c = c.unfinished.ensures.within c.args.text.now
