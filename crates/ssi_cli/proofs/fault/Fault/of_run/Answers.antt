use Rattle.std.proofs.Common.{rules}
use Rattle.ssi_cli.proofs.fault.Fault.of_run.Goals as goal

pub returns-in-ReadSerial-clause-certificate : goal.returns-in-ReadSerial-clause-certificate
returns-in-ReadSerial-clause-certificate c = search rules
