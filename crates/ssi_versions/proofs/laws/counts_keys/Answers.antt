use Rattle.ssi_versions.proofs.Counting.{counts_keys}
use Rattle.ssi_versions.proofs.laws.counts_keys.Goals as goal

pub returns : goal.returns
returns c hs changes holds = counts_keys hs changes holds
