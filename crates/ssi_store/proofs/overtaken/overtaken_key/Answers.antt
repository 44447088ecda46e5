use Rattle.std.proofs.Common.{rules}
use Rattle.ssi_store.proofs.overtaken.overtaken_key.Goals as goal

pub returns-clause-key : goal.returns-clause-key
returns-clause-key g c = search rules
