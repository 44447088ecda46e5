use Rattle.std.proofs.Common.{subst}
use Rattle.adya_terms.specs.Clauses.Checked.{checked_history, history_in}
use Rattle.adya_dsg.specs.Clauses.Found.{IsFound}
use Rattle.ssi_certify.proofs.Accepted.{no_cycle_found, texts_accepted}
use Rattle.ssi_certify.proofs.certificate.certified.Goals as goal

pub unreachable-requires-in-Cycle : goal.unreachable-requires-in-Cycle
unreachable-requires-in-Cycle c =
    no_cycle_found c.safe_histories_have_no_cycle.ensures (history_in c.in-Ok.checked) c.args.history.now
    c.in-Ok.ensures.same c.requires c.in-Cycle.field-0
    (subst (IsFound (checked_history c.in-Ok.checked)) c.in-Cycle.is c.in_ok-serial.ensures.found)

pub returns-clause-texts : goal.returns-clause-texts
returns-clause-texts c =
    texts_accepted c.accepted_have_texts.ensures (history_in c.in-Ok.checked) c.args.history.now c.in-Ok.ensures.same
    c.history_has_text.ensures c.in_ok-serial.field-0 c.in-Serial.serial c.in-Serial.is c.in_ok-serial.ensures.found
