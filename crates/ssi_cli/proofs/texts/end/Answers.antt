use Rattle.ssi_cli.proofs.texts.end.Goals as goal

pub returns : goal.returns
returns g c = λ course at. (c.in-Ok.ensures.history course at, c.in-Ok.ensures.records course at)
