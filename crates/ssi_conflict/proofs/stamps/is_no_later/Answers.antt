use Rattle.std.proofs.Common.{rules}
use Rattle.ssi_conflict.proofs.stamps.is_no_later.Goals as goal

pub returns-in-Some-None : goal.returns-in-Some-None
returns-in-Some-None c = search rules
