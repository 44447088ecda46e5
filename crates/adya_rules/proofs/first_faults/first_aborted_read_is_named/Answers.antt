use Rattle.adya_rules.proofs.FirstFault.{aborted_is_first, first_aborted_is_named}
use Rattle.adya_rules.proofs.first_faults.first_aborted_read_is_named.Goals as goal

pub returns-clause-sound : goal.returns-clause-sound
returns-clause-sound c = aborted_is_first

pub returns-clause-exact : goal.returns-clause-exact
returns-clause-exact c = first_aborted_is_named
