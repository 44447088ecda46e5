use Rattle.std.proofs.Common.{rules}
use Rattle.adya_values.proofs.event.Content.same.Goals as goal

pub returns-in-Dead-Live : goal.returns-in-Dead-Live
returns-in-Dead-Live c = search rules
