use Rattle.adya_audit.proofs.YesIffTextsAccepted.{yes_on_accepted}
use Rattle.adya_audit.proofs.laws.accepted_texts_get_yes.Goals as goal

pub returns : goal.returns
returns c = yes_on_accepted c.yes_iff_accepted.ensures
