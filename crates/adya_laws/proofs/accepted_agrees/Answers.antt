use Rattle.std.proofs.lemmas.Bool.{and_parts}
use Rattle.adya_laws.proofs.AcceptedAgrees.{agrees}
use Rattle.adya_laws.proofs.accepted_agrees.Goals as goal

pub returns : goal.returns
returns c h ts shape a = agrees h ts a (and_parts _ _ shape).1
