use Rattle.adya_laws.proofs.AcceptedHasNoPhenomenon.{no_g1, no_g2}
use Rattle.adya_laws.proofs.accepted_has_no_phenomenon.Goals as goal

pub returns : goal.returns
returns c h ts a = (no_g1 h ts a, no_g2 h ts a)
