use Rattle.ssi_store.proofs.HeldSnapshots.{calls_are_allowed}
use Rattle.ssi_store.proofs.laws.calls_are_allowed.Goals as goal

pub returns : goal.returns
returns c pivot d f = calls_are_allowed pivot d f
