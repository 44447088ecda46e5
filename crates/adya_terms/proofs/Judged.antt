-- A history of which a fault was found is not checked.
use Rattle.std.proofs.Common.{◌≡◌, ◌≢◌, true, Option, None, refl}
use Rattle.adya_values.specs.declared.fault.CheckFault.{CheckFault}
use Rattle.adya_values.specs.declared.fault.CheckFault.TheVariants.{Malformed, AbortedRead, IntermediateRead, Memory}
use Rattle.adya_values.specs.Meaning.Histories.{History}
use Rattle.adya_values.specs.Computing.Shapes.{is_shape}
use Rattle.adya_values.specs.Clauses.Acceptance.{IsChecked}
use Rattle.adya_values.specs.Computing.Faults.{Fault, first_fault}
use Rattle.adya_terms.specs.Clauses.Faults.{IsFault}
use Rattle.adya_rules.specs.Laws.Faults.{CheckedIffNoFault}

-- a fault that was found is there
found_is : (found : Option Fault) (e : CheckFault) → found ≡ None → IsFault found e → e ≢ Memory → ⊥
found_is found (Malformed line rule) none is other = cc (none, is)
found_is found (AbortedRead line version) none is other = cc (none, is)
found_is found (IntermediateRead line version) none is other = cc (none, is)
found_is found Memory none is other = other refl

pub refused_when_found : CheckedIffNoFault → (h : History) → is_shape h.orders h.finals ≡ true → (e : CheckFault) → IsFault (first_fault h) e
    → e ≢ Memory → IsChecked h → ⊥
refused_when_found law h shape e found other checked =
    found_is (first_fault h) e ((law h shape).1 checked) found other
