use Rattle.std.proofs.Common.{sym, ◌∙◌}
use Rattle.ssi_durable.specs.Clauses.Recovery.{LineFails}
use Rattle.ssi_durable.proofs.Stops.{no_line_damages, fault_fails, err_is, err_of_ok}
use Rattle.ssi_durable.proofs.replaying.carry_out.Goals as goal
use Rattle.ssi_durable.proofs.replaying.carry_out.Goals.{in-Ok, in-Err}

pub returns-in_default-clause-fault : goal.returns-in_default-clause-fault
returns-in_default-clause-fault g c = λ course at.
    no_line_damages c.args.line.now course (sym c.is_comment.ensures ∙ c.if-is_comment.false) c.in_default.ensures

pub returns-clause-fault : goal.returns-clause-fault
returns-clause-fault g c = λ course at.
    elim c.match-apply.branch [
      | in-Ok w ↦ err_of_ok (LineFails course c.args.line.now) c.match-apply.result _ w.result-is
      | in-Err w ↦
          err_is (LineFails course c.args.line.now) c.match-apply.result w.fault_of.result w.result-is
          (fault_fails c.args.line.now course c.in-Some.asked c.in-Do.command w.in-Err.refusal w.fault_of.result
          (sym c.is_comment.ensures ∙ c.if-is_comment.false) c.in-Some.ensures c.in-Do.is (w.in-Err.ensures.answers course at)
          w.fault_of.ensures)
    ]
