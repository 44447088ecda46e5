use Rattle.std.proofs.Common.{◌↔◌, ℕ, List, Option, Some, None, IfSome}
use Rattle.adya_audit.specs.Clauses.TextVerdicts.{AreAccepted}
use Rattle.adya_audit.specs.Meaning.Serializable.{AreSerializable}
use Rattle.ssi_cli.proofs.Failed.{not_ok, no_fault, passed_on, of_fault}
use Rattle.ssi_cli.proofs.runs.judge_texts.Goals as goal

accepted : {Said Told : Type 0} → Said ↔ Told → (a b : Option (List ℕ))
    → IfSome a (λ h. IfSome b (λ s. Told ↔ AreAccepted h s)) → IfSome a (λ h. IfSome b (λ s. Said ↔ AreAccepted h s))
accepted told None b p = p
accepted told (Some h) None p = p
accepted told (Some h) (Some s) p = (λ said. p.0 (told.0 said), λ are. told.1 (p.1 are))

serializable : {Said Told : Type 0} → (Said → Told) → (a b : Option (List ℕ))
    → IfSome a (λ h. IfSome b (λ s. Told → AreSerializable h s)) → IfSome a (λ h. IfSome b (λ s. Said → AreSerializable h s))
serializable told None b p = p
serializable told (Some h) None p = p
serializable told (Some h) (Some s) p = λ said. p (told said)

pub returns-clause-accepted : goal.returns-clause-accepted
returns-clause-accepted g c = accepted c.of_verdict.ensures.fine _ _ c.in_ok-verdict.ensures.yes

pub returns-clause-serializable : goal.returns-clause-serializable
returns-clause-serializable g c = serializable c.of_verdict.ensures.fine.0 _ _ c.in_ok-verdict.ensures.promise

pub returns-clause-history_fault : goal.returns-clause-history_fault
returns-clause-history_fault g c = no_fault

pub returns-clause-certificate_fault : goal.returns-clause-certificate_fault
returns-clause-certificate_fault g c = no_fault

pub returns-clause-write_fault : goal.returns-clause-write_fault
returns-clause-write_fault g c = no_fault

pub returns-clause-told : goal.returns-clause-told
returns-clause-told g c = (
  c.in_ok-verdict.verdict,
  record {
    written = c.in_ok-verdict.ensures.written;
    fine = c.of_verdict.ensures.fine;
    refused = c.of_verdict.ensures.refused;
  },
  c.in_ok-verdict.ensures.verdict,
  c.in_ok-verdict.ensures.history_syntax,
  c.in_ok-verdict.ensures.certificate_ended,
  λ syntax. c.in_ok-verdict.ensures.not_needed syntax.0 syntax.1,
)

pub returns-clause-history_ended : goal.returns-clause-history_ended
returns-clause-history_ended g c = c.in_ok-verdict.ensures.history_ended

pub returns-clause-unwritten : goal.returns-clause-unwritten
returns-clause-unwritten g c = tt

pub returns-in_err-verdict : goal.returns-in_err-verdict
returns-in_err-verdict g c =
    let fault = c.from_residual in record {
      accepted = not_ok _ fault.result fault.ensures.0;
      serializable = not_ok _ fault.result fault.ensures.0;
      told = not_ok _ fault.result fault.ensures.0;
      history_ended = not_ok _ fault.result fault.ensures.0;
      unwritten = of_fault _ fault.result _ fault.ensures.1 c.in_err-verdict.ensures.unwritten;
      memory = λ same. c.in_err-verdict.ensures.memory (passed_on fault.result _ _ fault.ensures.1 same);
      certificate_only = λ same. c.in_err-verdict.ensures.serial_only (passed_on fault.result _ _ fault.ensures.1 same);
      history_first = λ same. c.in_err-verdict.ensures.history_first (passed_on fault.result _ _ fault.ensures.1 same);
      history_fault = λ same. c.in_err-verdict.ensures.history_fault (passed_on fault.result _ _ fault.ensures.1 same);
      certificate_fault = λ same. c.in_err-verdict.ensures.certificate_fault (passed_on fault.result _ _ fault.ensures.1 same);
      write_fault = λ same. c.in_err-verdict.ensures.write_fault (passed_on fault.result _ _ fault.ensures.1 same);
    }
