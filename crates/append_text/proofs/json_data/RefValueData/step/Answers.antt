use Rattle.std.proofs.Common.{◌≢◌, length, subst}
use Rattle.std.specs.Prelude.{IfNone}
use Rattle.serde_json.specs.View.{view}
use Rattle.append_text.proofs.JsonForms.{other_values}
use Rattle.append_text.proofs.json_data.RefValueData.step.Goals as goal

pub returns-in-Some-clause-none : goal.returns-in-Some-clause-none
returns-in-Some-clause-none c = other_values c.step_of.result (view c.args.self.now) c.in-Some.values.now.items c.in-Some.ensures
    (subst (λ vs. IfNone c.step_of.result (length vs ≢ 3)) c.deref.ensures.value c.step_of.ensures.none)
