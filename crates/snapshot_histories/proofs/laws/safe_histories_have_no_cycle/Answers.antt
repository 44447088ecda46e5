use Rattle.snapshot_histories.proofs.Cycles.{safe_no_cycle}
use Rattle.snapshot_histories.proofs.laws.safe_histories_have_no_cycle.Goals as goal

pub returns : goal.returns
returns c h snapshot_of s cycle i = safe_no_cycle h snapshot_of s cycle i
