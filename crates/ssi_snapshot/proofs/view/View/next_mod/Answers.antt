use Rattle.std.proofs.Common.{rules}
use Rattle.ssi_snapshot.proofs.view.View.next_mod.Goals as goal

pub returns-in-Some-clause-m : goal.returns-in-Some-clause-m
returns-in-Some-clause-m c = search rules
