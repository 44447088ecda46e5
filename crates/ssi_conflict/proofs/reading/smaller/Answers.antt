use Rattle.std.proofs.Common.{rules}
use Rattle.ssi_conflict.proofs.reading.smaller.Goals as goal

pub returns-after-lt : goal.returns-after-lt
returns-after-lt c = search rules
