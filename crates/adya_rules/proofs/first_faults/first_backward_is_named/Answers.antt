use Rattle.adya_rules.proofs.FirstBackward.{backward_is_first, first_backward_is_named}
use Rattle.adya_rules.proofs.first_faults.first_backward_is_named.Goals as goal

pub returns : goal.returns
returns c h ts e = (backward_is_first h ts e, first_backward_is_named h ts e)
