use Rattle.std.proofs.Common.{◌∙◌, Err, sym, ap, subst}
use Rattle.devices.specs.Mirror.{has_failed}
use Rattle.ssi_cli.specs.declared.script_fault.ScriptFault.TheVariants.{History, Certificate, Memory}
use Rattle.ssi_cli.specs.Clauses.Scripts.{Shown, course_of}
use Rattle.ssi_cli.proofs.Failed.{no_fault, same_value, same_fault}
use Rattle.ssi_cli.proofs.LeftTexts.{left_if}
use Rattle.ssi_cli.proofs.script.run_script.Goals as goal

pub returns-in-Ok-clause-run : goal.returns-in-Ok-clause-run
returns-in-Ok-clause-run g c =
    let followed = c.follow_script-end in
    let (ran, ends, left) = followed.ensures.run in (
      ran,
      subst (λ e. Shown e (g.S.Source.is_failed c.args.input.now) (g.S.Source.is_failed followed.new.input) (has_failed followed.new.output))
          (sym ends) followed.ensures.shown,
      (
        sym ends,
        left_if (course_of ran) g.H.Write.contents c.args.history.now followed.new.history g.C.Write.contents c.args.certificate.now
            followed.new.certificate followed.result.1 _ c.in-Ok.is left,
      ),
    )

pub returns-in-Ok-clause-read_fault : goal.returns-in-Ok-clause-read_fault
returns-in-Ok-clause-read_fault g c = λ same. c.follow_script-end.ensures.shown.read_fault (same_value same)

pub returns-in-Ok-clause-write_fault : goal.returns-in-Ok-clause-write_fault
returns-in-Ok-clause-write_fault g c = λ same. c.follow_script-end.ensures.shown.write_fault (same_value same)

pub returns-in-Ok-clause-eof : goal.returns-in-Ok-clause-eof
returns-in-Ok-clause-eof g c = λ same. c.follow_script-end.ensures.shown.eof (same_value same)

pub returns-in-Ok-clause-unfailed : goal.returns-in-Ok-clause-unfailed
returns-in-Ok-clause-unfailed g c = c.follow_script-end.ensures.shown.unfailed

pub returns-in-Ok-clause-stream : goal.returns-in-Ok-clause-stream
returns-in-Ok-clause-stream g c = c.follow_script-end.ensures.stream

pub returns-in-Ok-clause-history_fault : goal.returns-in-Ok-clause-history_fault
returns-in-Ok-clause-history_fault g c = no_fault

pub returns-in-Ok-clause-certificate_fault : goal.returns-in-Ok-clause-certificate_fault
returns-in-Ok-clause-certificate_fault g c = no_fault

pub returns-in-Ok-clause-memory : goal.returns-in-Ok-clause-memory
returns-in-Ok-clause-memory g c = no_fault

pub returns-in-Err-clause-run : goal.returns-in-Err-clause-run
returns-in-Err-clause-run g c =
    let followed = c.follow_script-end in
    let (ran, ends, left) = followed.ensures.run in (
      ran,
      subst (λ e. Shown e (g.S.Source.is_failed c.args.input.now) (g.S.Source.is_failed followed.new.input) (has_failed followed.new.output))
          (sym ends) followed.ensures.shown,
      λ same. (left_if (course_of ran) g.H.Write.contents c.args.history.now followed.new.history g.C.Write.contents c.args.certificate.now
          followed.new.certificate followed.result.1 (Err Certificate) (c.in-Err.is ∙ ap (λ f. Err f) same) left).0,
    )

pub returns-in-Err-clause-stream : goal.returns-in-Err-clause-stream
returns-in-Err-clause-stream g c = c.follow_script-end.ensures.stream

pub returns-in-Err-clause-history_fault : goal.returns-in-Err-clause-history_fault
returns-in-Err-clause-history_fault g c = λ same.
    let followed = c.follow_script-end in
    let (ran, ends, left) = followed.ensures.run in
    left_if (course_of ran) g.H.Write.contents c.args.history.now followed.new.history g.C.Write.contents c.args.certificate.now
    followed.new.certificate followed.result.1 (Err History) (c.in-Err.is ∙ ap (λ f. Err f) (same_fault same)) left

pub returns-in-Err-clause-certificate_fault : goal.returns-in-Err-clause-certificate_fault
returns-in-Err-clause-certificate_fault g c = λ same.
    let followed = c.follow_script-end in
    let (ran, ends, left) = followed.ensures.run in
    (left_if (course_of ran) g.H.Write.contents c.args.history.now followed.new.history g.C.Write.contents c.args.certificate.now
    followed.new.certificate followed.result.1 (Err Certificate) (c.in-Err.is ∙ ap (λ f. Err f) (same_fault same)) left).1

pub returns-in-Err-clause-memory : goal.returns-in-Err-clause-memory
returns-in-Err-clause-memory g c = λ same.
    let followed = c.follow_script-end in
    let (ran, ends, left) = followed.ensures.run in
    left_if (course_of ran) g.H.Write.contents c.args.history.now followed.new.history g.C.Write.contents c.args.certificate.now
    followed.new.certificate followed.result.1 (Err Memory) (c.in-Err.is ∙ ap (λ f. Err f) (same_fault same)) left
