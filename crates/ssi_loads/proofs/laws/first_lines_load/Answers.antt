use Rattle.ssi_loads.proofs.FirstLines.{first_lines_load}
use Rattle.ssi_loads.proofs.laws.first_lines_load.Goals as goal

pub returns : goal.returns
returns c = first_lines_load
