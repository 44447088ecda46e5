use Rattle.adya_audit.proofs.YesIffTextsAccepted.{yes_texts}
use Rattle.adya_audit.proofs.laws.yes_iff_texts_accepted.Goals as goal

pub returns : goal.returns
returns c =
    yes_texts c.yes_iff_accepted.ensures c.history_texts.ensures.one_text c.serial_texts.ensures.one_text
    c.fault_lines.ensures.none_of_history c.fault_lines.ensures.none_of_serial
