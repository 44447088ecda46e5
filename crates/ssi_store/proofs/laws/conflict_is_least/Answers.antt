use Rattle.ssi_store.proofs.Conflicts.{conflict_is_least}
use Rattle.ssi_store.proofs.laws.conflict_is_least.Goals as goal

pub returns : goal.returns
returns c t log found = conflict_is_least t log found
