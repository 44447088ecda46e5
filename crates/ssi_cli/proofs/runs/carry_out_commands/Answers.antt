use Rattle.std.proofs.Common.{◌∙◌, Err, sym, ap, subst}
use Rattle.devices.specs.Mirror.{has_failed}
use Rattle.ssi_cli.specs.declared.script_fault.ScriptFault.TheVariants.{History, Certificate, Memory}
use Rattle.ssi_cli.specs.Clauses.Scripts.{Shown, course_of}
use Rattle.ssi_cli.specs.Clauses.Status.{commands_outcome}
use Rattle.ssi_cli.proofs.LeftTexts.{left_if}
use Rattle.ssi_cli.proofs.Outcomes.{ended_reading, ended_writing, unwritten}
use Rattle.ssi_cli.proofs.runs.carry_out_commands.Goals as goal

pub returns-clause-run : goal.returns-clause-run
returns-clause-run g c =
    let followed = c.follow_script-end in
    let (ran, ends, leaves) = followed.ensures.run in (
      ran,
      subst (λ e. Shown e (g.S.Source.is_failed c.args.input.now) (g.S.Source.is_failed followed.new.input) (has_failed followed.new.output))
          (sym ends) followed.ensures.shown,
      followed.result.1,
      c.status_of_commands.ensures ∙ ap (λ e. commands_outcome e followed.result.1) (sym ends),
      leaves,
    )

pub returns-clause-input : goal.returns-clause-input
returns-clause-input g c = λ same.
    c.follow_script-end.ensures.shown.read_fault (ended_reading _ c.follow_script-end.result.1 _ c.status_of_commands.ensures same)

pub returns-clause-output : goal.returns-clause-output
returns-clause-output g c = λ same.
    c.follow_script-end.ensures.shown.write_fault (ended_writing _ c.follow_script-end.result.1 _ c.status_of_commands.ensures same)

pub returns-clause-history : goal.returns-clause-history
returns-clause-history g c = λ same.
    let followed = c.follow_script-end in
    let (ran, ends, leaves) = followed.ensures.run in
    (left_if (course_of ran) g.H.Write.contents c.args.history.now followed.new.history g.C.Write.contents c.args.certificate.now
    followed.new.certificate followed.result.1 (Err History)
    (unwritten followed.result.0 followed.result.1 _ History c.status_of_commands.ensures same) leaves).0

pub returns-clause-certificate : goal.returns-clause-certificate
returns-clause-certificate g c = λ same.
    let followed = c.follow_script-end in
    let (ran, ends, leaves) = followed.ensures.run in
    (left_if (course_of ran) g.H.Write.contents c.args.history.now followed.new.history g.C.Write.contents c.args.certificate.now
    followed.new.certificate followed.result.1 (Err Certificate)
    (unwritten followed.result.0 followed.result.1 _ Certificate c.status_of_commands.ensures same) leaves).1

pub returns-clause-memory : goal.returns-clause-memory
returns-clause-memory g c = λ same.
    let followed = c.follow_script-end in
    let (ran, ends, leaves) = followed.ensures.run in
    left_if (course_of ran) g.H.Write.contents c.args.history.now followed.new.history g.C.Write.contents c.args.certificate.now
    followed.new.certificate followed.result.1 (Err Memory)
    (unwritten followed.result.0 followed.result.1 _ Memory c.status_of_commands.ensures same) leaves
