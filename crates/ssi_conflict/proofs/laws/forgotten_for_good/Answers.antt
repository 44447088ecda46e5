use Rattle.std.proofs.lemmas.Bool.{both_ways, false_from_ne_true}
use Rattle.ssi_conflict.proofs.Forgotten.{was_kept}
use Rattle.ssi_conflict.proofs.laws.forgotten_for_good.Goals as goal

pub returns : goal.returns
returns c x calls a t b e = false_from_ne_true _ (λ f. both_ways _ e (was_kept x calls a t b f))
