use Rattle.std.proofs.Common.{rules}
use Rattle.ssi_snapshot.proofs.view.View.txn.Goals as goal

pub returns : goal.returns
returns c = search rules
