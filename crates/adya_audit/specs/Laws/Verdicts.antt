-- When a verdict is yes, what that implies, and when it is that the certificate lists other transactions.
use Rattle.std.specs.Prelude.{◌≡◌, ◌↔◌, true}
use Rattle.adya_values.specs.Meaning.Histories.{Txns, History}
use Rattle.adya_values.specs.Computing.Shapes.{is_shape}
use Rattle.adya_values.specs.Clauses.Acceptance.{IsChecked, IsAccepted, ListsTheCommitted}
use Rattle.adya_audit.specs.Meaning.Verdicts.{Yes, NotTheCommitted}
use Rattle.adya_audit.specs.Computing.Verdicts.{verdict_of}
use Rattle.adya_audit.specs.Meaning.Serializable.{IsSerializableBy}

-- the verdict is yes if and only if the history and the certificate are accepted
abbrev pub YesIffAccepted : Type 0
YesIffAccepted = (h : History) (ts : Txns) → is_shape h.orders h.finals ≡ true
    → (verdict_of h ts ≡ Yes) ↔ IsAccepted h ts

-- an accepted history is serializable by its certificate
abbrev pub AcceptedIsSerializable : Type 0
AcceptedIsSerializable = (h : History) (ts : Txns) → is_shape h.orders h.finals ≡ true → IsAccepted h ts
    → IsSerializableBy h ts

-- the verdict is that the certificate doesn't list the committed transactions if and only if the history is checked, and
-- the certificate doesn't list each of them once and no other
abbrev pub NotTheCommittedIffUnlisted : Type 0
NotTheCommittedIffUnlisted = (h : History) (ts : Txns) → is_shape h.orders h.finals ≡ true
    → (verdict_of h ts ≡ NotTheCommitted) ↔ (IsChecked h × (ListsTheCommitted h ts → ⊥))
