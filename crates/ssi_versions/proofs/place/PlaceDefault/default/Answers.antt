use Rattle.ssi_versions.proofs.Lists.{letter}
use Rattle.ssi_versions.proofs.place.PlaceDefault.default.Goals as goal

pub unwrap-requires : goal.unwrap-requires
unwrap-requires c = c.new.ensures.limits.1 letter
