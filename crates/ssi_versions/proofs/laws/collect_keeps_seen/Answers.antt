use Rattle.ssi_versions.proofs.Holding.{collect_keeps_seen}
use Rattle.ssi_versions.proofs.laws.collect_keeps_seen.Goals as goal

pub returns : goal.returns
returns c changes a ss s named p k = collect_keeps_seen changes a ss s named p k
