use Rattle.edn.proofs.token.character.Goals as goal

pub returns-in_default-clause-within : goal.returns-in_default-clause-within
returns-in_default-clause-within c = c.unfinished.ensures.within c.args.text.now
