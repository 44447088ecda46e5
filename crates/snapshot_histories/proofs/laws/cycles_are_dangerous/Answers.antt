use Rattle.snapshot_histories.proofs.Cycles.{cycle_is_dangerous}
use Rattle.snapshot_histories.proofs.laws.cycles_are_dangerous.Goals as goal

pub returns : goal.returns
returns c h snapshot_of checked snap cycle i = cycle_is_dangerous h snapshot_of checked snap cycle i
