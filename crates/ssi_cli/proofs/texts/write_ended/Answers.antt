use Rattle.std.proofs.Common.{subst}
use Rattle.adya_text.specs.Meaning.Texts.{history_text}
use Rattle.devices.specs.Clauses.Writing.{Grew}
use Rattle.ssi_cli.proofs.ScriptRuns.{both_ok}
use Rattle.ssi_cli.proofs.texts.write_ended.Goals as goal

pub returns-clause-certified : goal.returns-clause-certified
returns-clause-certified g c =
    both_ok c.put_texts.result (λ grew certificate_grew course is records. record {
      history = _;
      certificate = _;
      is = is;
      records = records;
      accepted = c.in-Ok.ensures.accepted;
      texts = c.in-Ok.ensures.texts;
      history_written = subst (λ h. Grew g.H.Write.contents c.args.history.now c.put_texts.new.history (history_text h))
          c.history.ensures.same grew;
      certificate_written = certificate_grew;
    }) c.put_texts.ensures.history_written c.put_texts.ensures.certificate_written

pub returns-clause-history_written : goal.returns-clause-history_written
returns-clause-history_written g c = λ same course is records. record {
  history = _;
  is = is;
  records = records;
  written = subst (λ h. Grew g.H.Write.contents c.args.history.now c.put_texts.new.history (history_text h))
      c.history.ensures.same (c.put_texts.ensures.history_first same);
}

pub returns-clause-history_fault : goal.returns-clause-history_fault
returns-clause-history_fault g c = c.put_texts.ensures.history_fault

pub returns-clause-certificate_fault : goal.returns-clause-certificate_fault
returns-clause-certificate_fault g c = c.put_texts.ensures.certificate_fault

pub returns-clause-memory : goal.returns-clause-memory
returns-clause-memory g c = λ same. absurd (c.put_texts.ensures.memory same)
