use Rattle.std.proofs.Common.{rules}
use Rattle.ssi_cli.proofs.status.Status.of_ordered.Goals as goal

pub returns-in-Cycle-clause-fine : goal.returns-in-Cycle-clause-fine
returns-in-Cycle-clause-fine c = search rules
