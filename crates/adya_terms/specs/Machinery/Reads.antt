-- The two kinds of bad reads: what is none of the kind, and the fault.
use Rattle.std.specs.Prelude.{ℕ, Bool, List}
use Rattle.adya_values.specs.declared.event.Version.{Version}
use Rattle.adya_values.specs.declared.fault.CheckFault.{CheckFault}
use Rattle.adya_values.specs.declared.fault.CheckFault.TheVariants as Checked
use Rattle.adya_values.specs.Meaning.Histories.{Entry, Event}
use Rattle.adya_values.specs.Computing.Faults.{Fault, AbortedRead, IntermediateRead}
use Rattle.adya_terms.specs.declared.reads.BadRead.{BadRead}
use Rattle.adya_terms.specs.declared.reads.BadRead.TheVariants.{Aborted, Intermediate}
use Rattle.adya_terms.specs.Machinery.Checks.{is_not_aborted, is_own_or_last}

abbrev pub is_good : BadRead → List Event → List ℕ → Event → Entry → Bool
is_good Aborted all unfinished = is_not_aborted all unfinished
is_good Intermediate all unfinished = is_own_or_last all

abbrev pub fault_of : BadRead → ℕ → Version → Fault
fault_of Aborted = AbortedRead
fault_of Intermediate = IntermediateRead

-- the refusal that names it
abbrev pub refusal_of : BadRead → ℕ → Version → CheckFault
refusal_of Aborted = Checked.AbortedRead
refusal_of Intermediate = Checked.IntermediateRead
