use Rattle.std.proofs.Common.{◌↔◌, ℕ, List, Option, Some, None, IfSome}
use Rattle.adya_audit.specs.Clauses.TextVerdicts.{IsAcceptedStream}
use Rattle.ssi_cli.proofs.Failed.{no_fault}
use Rattle.ssi_cli.proofs.runs.judge_stream.Goals as goal

accepted : {Said Told : Type 0} → Said ↔ Told → (a : Option (List ℕ)) → IfSome a (λ s. Told ↔ IsAcceptedStream s)
    → IfSome a (λ s. Said ↔ IsAcceptedStream s)
accepted told None p = p
accepted told (Some s) p = (λ said. p.0 (told.0 said), λ are. told.1 (p.1 are))

pub returns-clause-accepted : goal.returns-clause-accepted
returns-clause-accepted g c = accepted c.of_verdict.ensures.fine _ c.in_ok-verdict.ensures.yes

pub returns-clause-read_fault : goal.returns-clause-read_fault
returns-clause-read_fault g c = no_fault

pub returns-clause-write_fault : goal.returns-clause-write_fault
returns-clause-write_fault g c = no_fault

pub returns-clause-no_other : goal.returns-clause-no_other
returns-clause-no_other g c = no_fault

pub returns-clause-told : goal.returns-clause-told
returns-clause-told g c = (
  c.in_ok-verdict.verdict,
  record {
    written = c.in_ok-verdict.ensures.written;
    fine = c.of_verdict.ensures.fine;
    refused = c.of_verdict.ensures.refused;
  },
  c.in_ok-verdict.ensures.verdict,
)
