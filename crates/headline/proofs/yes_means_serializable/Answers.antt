use Rattle.headline.proofs.Yes.{means_serializable}
use Rattle.headline.proofs.yes_means_serializable.Goals as goal

pub returns : goal.returns
returns c = means_serializable c.yes_iff_texts_accepted.ensures c.accepted_texts_are_serializable.ensures
