use Rattle.std.proofs.Common.{rules}
use Rattle.ssi_line.specs.Computing.Reading.{limit_at}
use Rattle.ssi_line.proofs.reading.limit_at.Goals as goal

pub returns : goal.returns
unfolding limit_at
returns c = search rules
