use Rattle.std.proofs.Common.{rules}
use Rattle.adya_audit.proofs.pipe.run_pipe.Goals as goal

pub returns-clause-written : goal.returns-clause-written
returns-clause-written g c = search rules
