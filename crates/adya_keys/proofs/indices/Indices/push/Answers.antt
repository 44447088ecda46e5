use Rattle.std.proofs.Common.{◌+◌}
use Rattle.adya_keys.proofs.indices.Indices.push.Goals as goal

pub returns-clause-room : goal.returns-clause-room
returns-clause-room c n m below room = c.push_reserved.ensures.room n m (c.reserve.ensures.keeps (n + 1) m below room)
