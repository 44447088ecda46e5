use Rattle.ssi_hub.proofs.Ran.{quiet_received, quiet_wrote, closed_adds_none}
use Rattle.ssi_hub.proofs.laws.quiet_calls_add_no_step.Goals as goal

pub returns-clause-received : goal.returns-clause-received
returns-clause-received c = quiet_received

pub returns-clause-wrote : goal.returns-clause-wrote
returns-clause-wrote c = quiet_wrote

pub returns-clause-closed : goal.returns-clause-closed
returns-clause-closed c = closed_adds_none
