use Rattle.ssi_cli.proofs.Deeds.{called_done}
use Rattle.ssi_cli.proofs.Turning.{quiet_noted}
use Rattle.ssi_cli.proofs.laws.calls_are_deeds.Goals as goal

pub returns-clause-done : goal.returns-clause-done
returns-clause-done c = λ keeps was now old new made deeds done same noted stands.
    called_done keeps was now old new made deeds done same noted stands

pub returns-clause-quiet : goal.returns-clause-quiet
returns-clause-quiet c = λ users made quiet. quiet_noted users made quiet
