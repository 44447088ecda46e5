use Rattle.ssi_store.proofs.HeldSnapshots.{open_snapshots_are_held}
use Rattle.ssi_store.proofs.laws.open_snapshots_are_held.Goals as goal

pub returns : goal.returns
returns c pivot d f t e = open_snapshots_are_held c.held_shows.ensures pivot d f t e
