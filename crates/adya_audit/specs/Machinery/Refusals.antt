-- The verdict that a refused check of a history leads to.
use Rattle.std.specs.Prelude.{◌≡◌}
use Rattle.adya_values.specs.declared.fault.CheckFault.{CheckFault}
use Rattle.adya_values.specs.declared.fault.CheckFault.TheVariants as Checked
use Rattle.adya_audit.specs.Meaning.Verdicts.{Verdict, Malformed, AbortedRead, IntermediateRead}

-- the verdict names the fault; out of memory leads to none
abbrev pub Refuses : CheckFault → Verdict → Type 0
Refuses (Checked.Malformed line rule) v = v ≡ Malformed line rule
Refuses (Checked.AbortedRead line version) v = v ≡ AbortedRead line version
Refuses (Checked.IntermediateRead line version) v = v ≡ IntermediateRead line version
Refuses Checked.Memory v = ⊥
