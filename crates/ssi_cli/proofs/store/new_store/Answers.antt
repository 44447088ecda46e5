use Rattle.std.proofs.Common.{rules}
use Rattle.ssi_cli.proofs.store.new_store.Goals as goal

pub returns : goal.returns
returns c = search rules
