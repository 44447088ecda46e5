use Rattle.std.proofs.Common.{rules}
use Rattle.ssi_snapshot.proofs.limit.is_visible.Goals as goal

pub returns-in-Dead : goal.returns-in-Dead
returns-in-Dead c = search rules
