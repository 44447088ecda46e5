use Rattle.std.proofs.Common.{◌∙◌}
use Rattle.append_values.proofs.AppendedElements.{appended_each}
use Rattle.append_values.proofs.steps.appended.Goals as goal

pub returns : goal.returns
returns c = c.in_ok-elements.ensures ∙ appended_each c.args.key c.args.operations.now
