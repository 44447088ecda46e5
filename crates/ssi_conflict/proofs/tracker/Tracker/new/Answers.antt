use Rattle.std.proofs.Common.{rules}
use Rattle.ssi_conflict.proofs.tracker.Tracker.new.Goals as goal

pub returns : goal.returns
returns g c = search rules
