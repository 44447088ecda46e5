use Rattle.std.proofs.Common.{rules}
use Rattle.ssi_snapshot.proofs.view.View.new.Goals as goal

pub returns-clause-count : goal.returns-clause-count
returns-clause-count c = search rules
