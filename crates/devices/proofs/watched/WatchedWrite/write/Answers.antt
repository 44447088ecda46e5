use Rattle.std.proofs.Common.{rules}
use Rattle.devices.proofs.watched.WatchedWrite.write.Goals as goal

pub returns-after-n-eq0-clause-nothing : goal.returns-after-n-eq0-clause-nothing
returns-after-n-eq0-clause-nothing g c = search rules
