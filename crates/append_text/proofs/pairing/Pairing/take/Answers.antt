use Rattle.std.proofs.Common.{sym, ◌∙◌}
use Rattle.append_text.specs.Machinery.Pairings.{op_of}
use Rattle.append_text.proofs.PairingSteps.{after_invocation, invocation_refusal, after_completion, completion_refusal}
use Rattle.append_text.proofs.pairing.Pairing.take.Goals as goal

pub returns-then-is_invocation-2-clause-taken : goal.returns-then-is_invocation-2-clause-taken
returns-then-is_invocation-2-clause-taken c =
    after_invocation c.invoke.result c.args.self.now c.invoke.new.self c.or_by-self.result (op_of c.args.op)
    c.or_by-self.ensures (sym c.is_alone.ensures ∙ c.if-is_alone.false) (sym c.is_invoke-is_invocation.ensures ∙ c.if-is_invocation-2.true)
    c.invoke.ensures.style c.invoke.ensures.transactions c.invoke.ensures.labels c.invoke.ensures.waited
    c.invoke.ensures.waits

pub returns-then-is_invocation-2-clause-refused : goal.returns-then-is_invocation-2-clause-refused
returns-then-is_invocation-2-clause-refused c =
    invocation_refusal c.invoke.result c.args.self.now c.or_by-self.result (op_of c.args.op) c.or_by-self.ensures
    (sym c.is_alone.ensures ∙ c.if-is_alone.false) (sym c.is_invoke-is_invocation.ensures ∙ c.if-is_invocation-2.true)
    c.invoke.ensures.refused

pub returns-clause-taken : goal.returns-clause-taken
returns-clause-taken c =
    after_completion c.complete.result c.args.self.now c.complete.new.self c.or_by-self.result (op_of c.args.op)
    c.or_by-self.ensures (sym c.is_alone.ensures ∙ c.if-is_alone.false) (sym c.is_invoke-is_invocation.ensures ∙ c.if-is_invocation-2.false)
    c.complete.ensures.style c.complete.ensures.ended c.complete.ensures.waits

pub returns-clause-refused : goal.returns-clause-refused
returns-clause-refused c =
    completion_refusal c.complete.result c.args.self.now c.or_by-self.result (op_of c.args.op) c.or_by-self.ensures
    (sym c.is_alone.ensures ∙ c.if-is_alone.false) (sym c.is_invoke-is_invocation.ensures ∙ c.if-is_invocation-2.false)
    c.complete.ensures.refused
