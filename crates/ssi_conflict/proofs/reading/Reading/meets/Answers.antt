use Rattle.std.proofs.Common.{rules}
use Rattle.ssi_conflict.proofs.reading.Reading.meets.Goals as goal

pub returns-then-le : goal.returns-then-le
returns-then-le c = search rules
