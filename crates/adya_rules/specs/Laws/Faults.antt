-- The list of faults is empty exactly for checked histories.
use Rattle.std.specs.Prelude.{◌≡◌, ◌↔◌, true, None}
use Rattle.adya_values.specs.Meaning.Histories.{History}
use Rattle.adya_values.specs.Computing.Shapes.{is_shape}
use Rattle.adya_values.specs.Clauses.Acceptance.{IsChecked}
use Rattle.adya_values.specs.Computing.Faults.{first_fault}

-- a history of which no fault is found is checked, whatever its shape
abbrev pub CheckedIfNoFault : Type 0
CheckedIfNoFault = (h : History) → first_fault h ≡ None → IsChecked h

-- a history whose orders and finals rise by key has no fault exactly if it is checked
abbrev pub CheckedIffNoFault : Type 0
CheckedIffNoFault = (h : History) → is_shape h.orders h.finals ≡ true → (first_fault h ≡ None) ↔ IsChecked h
