use Rattle.std.proofs.Common.{rules}
use Rattle.ssi_cli.proofs.status.ExitCodeFromStatus.from.Goals as goal

pub returns-in-Refused : goal.returns-in-Refused
returns-in-Refused c = search rules
