use Rattle.std.proofs.Common.{rules}
use Rattle.ssi_cli.proofs.fault.Fault.report.Goals as goal

pub returns : goal.returns
returns g c = search rules
