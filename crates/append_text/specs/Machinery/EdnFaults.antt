-- Faults of a text, by those of its reader and of its operations.
use Rattle.std.specs.Prelude.{◌≡◌, ℕ, List, [], ◌∷◌, ◌++◌, length}
use Rattle.edn.specs.Meaning.Forms.{Form, list, forms_of}
use Rattle.edn.specs.declared.read_fault.ReadFault.{ReadFault as EdnFault}
use Rattle.edn.specs.declared.read_fault.ReadFault.TheVariants as edn
use Rattle.append_text.specs.declared.read_fault.Place.{Place}
use Rattle.append_text.specs.declared.read_fault.Place.TheVariants.{Line, Element}
use Rattle.append_text.specs.declared.read_fault.Problem.{Problem}
use Rattle.append_text.specs.declared.read_fault.Problem.TheVariants as problem
use Rattle.append_text.specs.declared.read_fault.ReadFault.{ReadFault}
use Rattle.append_text.specs.declared.read_fault.ReadFault.TheVariants as fault
use Rattle.append_text.specs.declared.read_fault.Refusal.{Refusal}
use Rattle.append_text.specs.declared.read_fault.Refusal.TheVariants as refusal
use Rattle.append_text.specs.declared.text_form.TextForm.TheVariants.{Edn}
use Rattle.append_text.specs.Meaning.Data.{parts}
use Rattle.append_text.specs.Meaning.Texts.{IsWrongAfter}

abbrev pub of_edn : EdnFault → ReadFault
of_edn (edn.Syntax line p) = fault.Text (Line line) (problem.Edn p)
of_edn edn.Device = fault.Device
of_edn edn.Memory = fault.Memory

abbrev pub fault_at : Place → Refusal → ReadFault
fault_at place (refusal.Problem p) = fault.Text place p
fault_at place refusal.Memory = fault.Memory

-- of these elements of a list, which follow those forms, the one at this place is refused
pub record IsWrongElement (fs listed : List Form) (place : ℕ) (p : Problem) : Type 0 where
  pub front : List Form
  pub form : Form
  pub back : List Form
  pub split : listed ≡ front ++ form ∷ back
  pub place_is : place ≡ length front
  pub wrong : IsWrongAfter Edn (fs ++ front) form p

abbrev pub IsRefusedListed : List Form → List Form → ReadFault → Type 0
IsRefusedListed fs listed (fault.Text (Line line) p) = ⊥
IsRefusedListed fs listed (fault.Text (Element k) p) = IsWrongElement fs listed k p
IsRefusedListed fs listed fault.Device = ⊥
IsRefusedListed fs listed fault.Memory = Unit {0}

-- the form, which ends on the line, is refused after those, or an element of it, if it is a list
abbrev pub IsRefusedForm : List Form → Form → ℕ → ReadFault → Type 0
IsRefusedForm fs f end (fault.Text (Line line) p) = (line ≡ end) × (parts f ≡ f ∷ []) × IsWrongAfter Edn fs f p
IsRefusedForm fs f end (fault.Text (Element k) p) = (listed : List Form) × (f ≡ list (forms_of listed)) × IsWrongElement fs listed k p
IsRefusedForm fs f end fault.Device = ⊥
IsRefusedForm fs f end fault.Memory = Unit {0}
