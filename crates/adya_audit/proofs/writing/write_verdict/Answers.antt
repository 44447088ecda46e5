use Rattle.std.proofs.Common.{rules}
use Rattle.adya_audit.proofs.writing.write_verdict.Goals as goal

pub returns : goal.returns
returns g c = search rules
