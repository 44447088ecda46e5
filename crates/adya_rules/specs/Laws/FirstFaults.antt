-- The named fault is the first one: broken rules come before aborted reads, and these before intermediate reads.
use Rattle.std.specs.Prelude.{◌≡◌, ◌↔◌, ℕ, true, Some}
use Rattle.adya_values.specs.declared.event.Version.{Version}
use Rattle.adya_values.specs.declared.fault.Rule.{Rule}
use Rattle.adya_values.specs.Computing.Faults.{Malformed, AbortedRead, IntermediateRead, first_fault}
use Rattle.adya_values.specs.Meaning.Histories.{Txns, History}
use Rattle.adya_values.specs.Computing.Shapes.{is_shape}
use Rattle.adya_values.specs.Meaning.Edges.{Edge}
use Rattle.adya_values.specs.Clauses.Rules.{IsWellFormed}
use Rattle.adya_values.specs.Meaning.Phenomena.{HasG1a}
use Rattle.adya_values.specs.Computing.Certificates.{first_backward}
use Rattle.adya_rules.specs.Clauses.FirstFaults.{BreaksRule, IsFirstMalformed, IsFirstAbortedRead, IsFirstIntermediateRead, IsFirstBackward}

-- a history whose orders and finals rise by key is well-formed exactly if it breaks no rule at any line
abbrev pub WellFormedIffUnbroken : Type 0
WellFormedIffUnbroken = (h : History) → is_shape h.orders h.finals ≡ true
    → ((line : ℕ) (rule : Rule) → BreaksRule h line rule → ⊥) ↔ IsWellFormed h

-- a broken rule is named exactly if it is the first one
abbrev pub FirstMalformedIsNamed : Type 0
FirstMalformedIsNamed = (h : History) (line : ℕ) (rule : Rule)
    → (first_fault h ≡ Some (Malformed line rule)) ↔ IsFirstMalformed h line rule

-- if an aborted read is named, the history is well-formed and this is its first aborted read
abbrev pub NamedAbortedReadIsFirst : Type 0
NamedAbortedReadIsFirst = (h : History) (line : ℕ) (v : Version) → first_fault h ≡ Some (AbortedRead line v)
    → IsWellFormed h × IsFirstAbortedRead h line v

-- if such a history is well-formed and has aborted reads, the first one is named
abbrev pub FirstAbortedReadIsNamed : Type 0
FirstAbortedReadIsNamed = (h : History) (line : ℕ) (v : Version) → is_shape h.orders h.finals ≡ true
    → IsWellFormed h → IsFirstAbortedRead h line v → first_fault h ≡ Some (AbortedRead line v)

-- if an intermediate read is named, the history is well-formed without aborted reads, and this is its first one
abbrev pub NamedIntermediateReadIsFirst : Type 0
NamedIntermediateReadIsFirst = (h : History) (line : ℕ) (v : Version) → first_fault h ≡ Some (IntermediateRead line v)
    → IsWellFormed h × (HasG1a h → ⊥) × IsFirstIntermediateRead h line v

-- if such a history is well-formed without aborted reads and has intermediate reads, the first one is named
abbrev pub FirstIntermediateReadIsNamed : Type 0
FirstIntermediateReadIsNamed = (h : History) (line : ℕ) (v : Version) → is_shape h.orders h.finals ≡ true
    → IsWellFormed h → (HasG1a h → ⊥) → IsFirstIntermediateRead h line v
    → first_fault h ≡ Some (IntermediateRead line v)

-- an edge is named exactly if it is the first that doesn't go forward
abbrev pub FirstBackwardIsNamed : Type 0
FirstBackwardIsNamed = (h : History) (ts : Txns) (e : Edge) → (first_backward h ts ≡ Some e) ↔ IsFirstBackward h ts e
