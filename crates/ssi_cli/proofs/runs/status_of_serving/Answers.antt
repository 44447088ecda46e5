use Rattle.std.proofs.Common.{rules}
use Rattle.ssi_cli.proofs.runs.status_of_serving.Goals as goal

pub returns-in-SocketFault-default-clause-fine : goal.returns-in-SocketFault-default-clause-fine
returns-in-SocketFault-default-clause-fine c = search rules
