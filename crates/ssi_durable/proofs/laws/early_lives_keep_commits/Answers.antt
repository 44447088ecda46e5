use Rattle.ssi_durable.proofs.EarlyKept.{early_lives_keep}
use Rattle.ssi_durable.proofs.laws.early_lives_keep_commits.Goals as goal

pub returns : goal.returns
returns g = early_lives_keep
