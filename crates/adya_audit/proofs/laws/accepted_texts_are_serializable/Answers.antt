use Rattle.adya_audit.proofs.YesIffTextsAccepted.{serializable_texts}
use Rattle.adya_audit.proofs.laws.accepted_texts_are_serializable.Goals as goal

pub returns : goal.returns
returns c = serializable_texts c.accepted_is_serializable.ensures
