use Rattle.std.proofs.Common.{◌≡◌, ◌↔◌, subst}
use Rattle.std.proofs.lemmas.Result.{IfOk-from_err}
use Rattle.adya_values.specs.Mirror.Histories.{history_of}
use Rattle.adya_values.specs.declared.history.History.{History as HistoryValue}
use Rattle.adya_values.specs.Meaning.Phenomena.{HasG1, HasG2}
use Rattle.adya_values.specs.Clauses.Acceptance.{IsChecked}
use Rattle.adya_terms.specs.Clauses.Checked.{checked_history, history_in}
use Rattle.adya_dsg.specs.Clauses.Found.{HasCertificate}
use Rattle.adya_dsg.specs.Laws.{CertifiedIffNoPhenomenon}
use Rattle.adya_dsg.proofs.Certificates.{none_beside_result}
use Rattle.adya_dsg.proofs.ordering.order.Goals as goal

decided : CertifiedIffNoPhenomenon → (own lent : HistoryValue) → lent ≡ own → IsChecked (history_of lent)
    → HasCertificate (history_of own) ↔ ((HasG1 (history_of own) → ⊥) × (HasG2 (history_of own) → ⊥))
decided law own lent same checked =
    law (history_of own) (subst (λ h. IsChecked (history_of h)) same checked).well_formed

pub returns-clause-refused : goal.returns-clause-refused
returns-clause-refused c =
    none_beside_result c.cycle_excludes_certificates.ensures (checked_history c.args.checked.now)
    c.found.result c.found.ensures.found

pub returns-clause-decided : goal.returns-clause-decided
returns-clause-decided c =
    decided c.certified_iff_no_phenomenon.ensures (history_in c.args.checked.now) c.history.result.now
    c.history.ensures.same c.history.ensures.checked

pub returns-in_err-nodes-clause-decided : goal.returns-in_err-nodes-clause-decided
returns-in_err-nodes-clause-decided c =
    decided c.certified_iff_no_phenomenon.ensures (history_in c.args.checked.now) c.history.result.now
    c.history.ensures.same c.history.ensures.checked

pub certified_iff_no_phenomenon-requires : goal.certified_iff_no_phenomenon-requires
certified_iff_no_phenomenon-requires c = tt

pub cycle_excludes_certificates-requires : goal.cycle_excludes_certificates-requires
cycle_excludes_certificates-requires c = tt

pub history-requires : goal.history-requires
history-requires c = tt

pub events-requires : goal.events-requires
events-requires c = tt

pub committed-requires : goal.committed-requires
committed-requires c = tt

pub returns-in_err-nodes-clause-found : goal.returns-in_err-nodes-clause-found
returns-in_err-nodes-clause-found c = IfOk-from_err c.from_residual.result _ c.from_residual.ensures.0

pub returns-in_err-nodes-clause-refused : goal.returns-in_err-nodes-clause-refused
returns-in_err-nodes-clause-refused c = IfOk-from_err c.from_residual.result _ c.from_residual.ensures.0

pub returns-in_err-nodes-clause-simple : goal.returns-in_err-nodes-clause-simple
returns-in_err-nodes-clause-simple c = IfOk-from_err c.from_residual.result _ c.from_residual.ensures.0
