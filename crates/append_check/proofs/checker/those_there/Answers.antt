use Rattle.std.proofs.Common.{subst, inl, inr}
use Rattle.append_values.specs.declared.reason.Counted.{Counted}
use Rattle.append_values.specs.Meaning.Reasons.{Holds}
use Rattle.append_check.specs.Meaning.Verdicts.{history_of}
use Rattle.append_check.proofs.Each.{push-cases}
use Rattle.append_check.proofs.checker.those_there.Goals as goal

pub reasons-preserved-in-Continue-branch-2 : goal.reasons-preserved-in-Continue-branch-2
reasons-preserved-in-Continue-branch-2 c counted there =
    elim (push-cases c.reasons.there.items c.push.new.self.items c.in-Some.counted c.in_ok-push.ensures.items counted there) [
      | inl d ↦ c.reasons.invariant counted d
      | inr e ↦
          subst (λ (one : Counted). Holds (history_of c.args.transactions.now) one.reason) e
          (c.in_ok-is_there.ensures c.if-is_there.true)
    ]
