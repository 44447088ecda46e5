use Rattle.std.proofs.Common.{refl}
use Rattle.adya_audit.proofs.TextAnswers.{accepted_serial}
use Rattle.adya_audit.proofs.laws.accepted_have_texts.Goals as goal

pub returns : goal.returns
returns c = λ h ts is a. record {
  history = h;
  certificate = ts;
  history_read = record { is_history = is; same = refl };
  certificate_read = record { is_serial = accepted_serial h ts is a; same = refl };
  accepted = a;
}
