use Rattle.std.proofs.Common.{rules}
use Rattle.ssi_snapshot.proofs.view.View.snapshot.Goals as goal

pub returns : goal.returns
returns c = search rules
