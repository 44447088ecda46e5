use Rattle.ssi_snapshot.proofs.Limiting.{limit_first}
use Rattle.ssi_snapshot.proofs.laws.limit_takes_first.Goals as goal

pub returns : goal.returns
returns c = limit_first
