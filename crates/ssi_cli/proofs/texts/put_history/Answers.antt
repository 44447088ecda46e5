use Rattle.std.proofs.Common.{rules}
use Rattle.ssi_cli.proofs.texts.put_history.Goals as goal

pub returns : goal.returns
returns g c = search rules
