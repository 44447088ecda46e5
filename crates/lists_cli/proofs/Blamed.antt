-- What is blamed if no history is read.
use Rattle.std.proofs.Common.{◌≡◌, Bool, true, List, ℕ, refl, Result, Err}
use Rattle.append_text.specs.declared.read_fault.ReadFault.{ReadFault}
use Rattle.append_text.specs.declared.read_fault.ReadFault.TheVariants.{Text, Device, Memory}
use Rattle.append_text.specs.declared.text_form.TextForm.{TextForm}
use Rattle.append_text.specs.Meaning.JsonTexts.{IsFaultIn}
use Rattle.lists_cli.specs.Clauses.Faults.{IsReading, IsRefusal, fault_of}
use Rattle.lists_cli.specs.declared.fault.Fault.{Fault}
use Rattle.lists_cli.specs.declared.fault.Fault.TheVariants as fault

pub refused : (n : TextForm) (text : List ℕ) (e : ReadFault) → IsFaultIn n text e → IsRefusal n text (fault_of e)
refused n text (Text place problem) is = is
refused n text Device is = tt
refused n text Memory is = tt

pub reading : (e : ReadFault) → IsReading (fault_of e)
reading (Text place problem) = tt
reading Device = tt
reading Memory = tt

pub source_blamed : (failed : Bool) (e : ReadFault) → (e ≡ Device → failed ≡ true) → fault_of e ≡ fault.Read → failed ≡ true
source_blamed failed (Text place problem) device read = absurd cc
source_blamed failed Device device read = device refl
source_blamed failed Memory device read = absurd cc

abbrev failed : (T : Type 0) → Fault → Result T Fault
failed T e = Err e

pub same_fault : (T : Type 0) (e f : Fault) → failed T e ≡ failed T f → e ≡ f
same_fault T e f same = cc
