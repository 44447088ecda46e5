use Rattle.ssi_cli.proofs.Deeds.{aborted_done}
use Rattle.ssi_cli.proofs.laws.aborts_are_deeds.Goals as goal

pub returns : goal.returns
returns c = λ keeps was now old new t aborts deeds done same forgot are gone stands.
    aborted_done keeps was now old new t aborts deeds done same forgot stands are gone
