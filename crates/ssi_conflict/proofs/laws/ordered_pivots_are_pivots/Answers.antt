use Rattle.ssi_conflict.proofs.PivotsNamed.{ordered_is_pivot}
use Rattle.ssi_conflict.proofs.laws.ordered_pivots_are_pivots.Goals as goal

pub returns : goal.returns
returns c calls t p = ordered_is_pivot calls t p
