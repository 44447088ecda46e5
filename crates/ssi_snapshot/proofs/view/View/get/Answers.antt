use Rattle.std.proofs.Common.{rules}
use Rattle.ssi_snapshot.proofs.view.View.get.Goals as goal

pub returns : goal.returns
returns g c = search rules
