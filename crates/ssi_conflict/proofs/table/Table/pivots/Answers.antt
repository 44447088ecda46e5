use Rattle.std.proofs.Common.{rules}
use Rattle.ssi_conflict.proofs.table.Table.pivots.Goals as goal

pub returns-then-not-is_within : goal.returns-then-not-is_within
returns-then-not-is_within c = search rules
