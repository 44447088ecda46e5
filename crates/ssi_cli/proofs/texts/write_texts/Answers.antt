use Rattle.std.proofs.Common.{refl}
use Rattle.ssi_cli.proofs.ScriptRuns.{if_ok}
use Rattle.ssi_cli.proofs.LeftTexts.{leaves}
use Rattle.ssi_cli.proofs.texts.write_texts.Goals as goal

pub returns-clause-certified : goal.returns-clause-certified
returns-clause-certified g c =
    if_ok c.write_ended.result (λ _ certified course at.
    let (is, records) = c.in-Ok.ensures course at in certified course is records) c.write_ended.ensures.certified

pub returns-clause-texts : goal.returns-clause-texts
returns-clause-texts g c = λ course at.
    let (is, records) = c.in-Ok.ensures course at in
    leaves course g.H.Write.contents c.args.history.now c.write_ended.new.history g.W.Write.contents c.args.certificate.now
    c.write_ended.new.certificate c.write_ended.result
    (if_ok c.write_ended.result (λ _ certified. certified course is records) c.write_ended.ensures.certified) c.write_ended.ensures.history_fault
    (λ same. c.write_ended.ensures.history_written same course is records) c.write_ended.ensures.certificate_fault
    c.write_ended.ensures.memory

pub returns-clause-history_fault : goal.returns-clause-history_fault
returns-clause-history_fault g c = c.write_ended.ensures.history_fault

pub returns-clause-certificate_fault : goal.returns-clause-certificate_fault
returns-clause-certificate_fault g c = c.write_ended.ensures.certificate_fault

pub returns-clause-memory : goal.returns-clause-memory
returns-clause-memory g c = c.write_ended.ensures.memory

pub returns-in_default-clause-certified : goal.returns-in_default-clause-certified
returns-in_default-clause-certified g c = tt

pub returns-in_default-clause-texts : goal.returns-in_default-clause-texts
returns-in_default-clause-texts g c = λ _ _. (refl, refl)

pub returns-in_default-clause-memory : goal.returns-in_default-clause-memory
returns-in_default-clause-memory g c = λ _. (refl, refl)
