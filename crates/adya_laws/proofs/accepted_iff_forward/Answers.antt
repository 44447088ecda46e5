use Rattle.adya_laws.proofs.AcceptedIffForward.{accepted_from_test, test_from_accepted}
use Rattle.adya_laws.proofs.accepted_iff_forward.Goals as goal

pub returns : goal.returns
returns c h ts checked = (accepted_from_test h ts checked, test_from_accepted h ts)
