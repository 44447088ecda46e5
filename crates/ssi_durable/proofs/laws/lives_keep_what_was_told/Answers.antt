use Rattle.ssi_durable.proofs.Kept.{lives_keep}
use Rattle.ssi_durable.proofs.laws.lives_keep_what_was_told.Goals as goal

pub returns : goal.returns
returns c = lives_keep
