use Rattle.ssi_snapshot.proofs.Reaching.{limit_range}
use Rattle.ssi_snapshot.proofs.laws.limit_lists_its_range.Goals as goal

pub returns : goal.returns
returns c = limit_range
