use Rattle.adya_rules.proofs.FirstFault.{checked_without_fault, no_fault_if_checked}
use Rattle.adya_rules.proofs.laws.checked_iff_no_fault.Goals as goal

pub returns-clause-sound : goal.returns-clause-sound
returns-clause-sound c = checked_without_fault

pub returns-clause-exact : goal.returns-clause-exact
returns-clause-exact c h shape = (checked_without_fault h, no_fault_if_checked h shape)
