use Rattle.adya_rules.proofs.FirstFault.{malformed_is_first, first_malformed_is_named}
use Rattle.adya_rules.proofs.first_faults.first_malformed_is_named.Goals as goal

pub returns : goal.returns
returns c h line rule = (malformed_is_first h line rule, first_malformed_is_named h line rule)
