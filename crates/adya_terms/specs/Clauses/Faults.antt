-- What a refusal says.
use Rattle.std.specs.Prelude.{◌≡◌, Option, Some}
use Rattle.adya_values.specs.declared.fault.CheckFault.{CheckFault}
use Rattle.adya_values.specs.declared.fault.CheckFault.TheVariants as Checked
use Rattle.adya_values.specs.Computing.Faults.{Fault, Malformed, AbortedRead, IntermediateRead}

-- the refusal names the fault that is found, or says that memory ran out
abbrev pub IsFault : Option Fault → CheckFault → Type 0
IsFault found (Checked.Malformed line rule) = found ≡ Some (Malformed line rule)
IsFault found (Checked.AbortedRead line version) = found ≡ Some (AbortedRead line version)
IsFault found (Checked.IntermediateRead line version) = found ≡ Some (IntermediateRead line version)
IsFault found Checked.Memory = Unit {0}
