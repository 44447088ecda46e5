use Rattle.std.proofs.Common.{rules}
use Rattle.ssi_line.specs.Computing.Reading.{of_key}
use Rattle.ssi_line.proofs.reading.of_key.Goals as goal

pub returns-then-eq-2 : goal.returns-then-eq-2
unfolding of_key
returns-then-eq-2 c = search rules
