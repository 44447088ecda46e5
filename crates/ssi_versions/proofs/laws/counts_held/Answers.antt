use Rattle.ssi_versions.proofs.Counting.{counts_held}
use Rattle.ssi_versions.proofs.laws.counts_held.Goals as goal

pub returns : goal.returns
returns c hs changes holds = counts_held hs changes holds
