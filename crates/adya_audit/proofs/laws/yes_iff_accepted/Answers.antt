use Rattle.adya_audit.proofs.YesIffAccepted.{yes_accepted}
use Rattle.adya_audit.proofs.laws.yes_iff_accepted.Goals as goal

pub returns : goal.returns
returns c =
    yes_accepted c.checked_iff_no_fault.ensures.sound c.checked_iff_no_fault.ensures.exact
    c.accepted_iff_forward.ensures
