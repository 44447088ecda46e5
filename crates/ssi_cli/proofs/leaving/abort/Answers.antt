use Rattle.std.proofs.Common.{[]}
use Rattle.ssi_cli.proofs.Aborts.{no_abort}
use Rattle.ssi_cli.proofs.leaving.abort.Goals as goal

pub returns-in_default-clause-aborted : goal.returns-in_default-clause-aborted
returns-in_default-clause-aborted g c = λ calls s. ([], s, λ course at. (tt, at), no_abort c.args.hub.now c.args.session calls s)
