-- What acceptance of a history and a certificate implies (Adya 1999, sections 3.1 and 3.2).
use Rattle.std.specs.Prelude.{◌≡◌, ◌≢◌, ◌<◌, ◌↔◌, ℕ, Bool, true, None, Some, Contains}
use Rattle.std.specs.List.{find, AllPairs}
use Rattle.adya_keys.specs.Meaning.Keys.{Key}
use Rattle.adya_values.specs.Meaning.Histories.{Txns, Event, History}
use Rattle.adya_values.specs.Meaning.Events.{txn_of, is_committed}
use Rattle.adya_values.specs.Meaning.Orders.{installer}
use Rattle.adya_values.specs.Meaning.Selections.{selected}
use Rattle.adya_values.specs.Computing.Shapes.{is_shape}
use Rattle.adya_values.specs.Meaning.Edges.{Edge, IsEdge}
use Rattle.adya_values.specs.Computing.EdgeList.{dependencies, edge_list}
use Rattle.adya_values.specs.Meaning.Phenomena.{HasG1, HasG2}
use Rattle.adya_values.specs.Meaning.Serial.{Agrees}
use Rattle.adya_values.specs.Clauses.Acceptance.{IsChecked, IsAccepted}
use Rattle.adya_values.specs.Computing.Certificates.{lists_the_committed, first_backward}

-- the list of edges holds the edges of the direct serialization graph, and nothing else
abbrev pub EdgeListIsExact : Type 0
EdgeListIsExact = (h : History) (e : Edge) → IsEdge h e ↔ Contains (edge_list h) e

-- no edge stands twice in the list
abbrev pub EdgeListIsDistinct : Type 0
EdgeListIsDistinct = (h : History) → AllPairs (λ a b. a ≢ b) (edge_list h)

-- the first edge that passes a test is the first of all dependencies, repeats included, that does
abbrev pub EdgeListKeepsFirst : Type 0
EdgeListKeepsFirst = (h : History) (p : Edge → Bool) → find p (edge_list h) ≡ find p (dependencies h)

-- an accepted history has neither G1 nor G2
abbrev pub AcceptedHasNoPhenomenon : Type 0
AcceptedHasNoPhenomenon = (h : History) (ts : Txns) → IsAccepted h ts → (HasG1 h → ⊥) × (HasG2 h → ⊥)

-- a checked history is accepted with a certificate exactly if this lists the committed transactions and no edge goes
-- backward in it
abbrev pub AcceptedIffForward : Type 0
AcceptedIffForward = (h : History) (ts : Txns) → IsChecked h
    → ((lists_the_committed h ts ≡ true) × (first_backward h ts ≡ None)) ↔ IsAccepted h ts

-- running the transactions of an accepted history one after the other, in the certificate's order on an initially
-- empty map, reproduces every read, every scan and the final contents
abbrev pub AcceptedAgrees : Type 0
AcceptedAgrees = (h : History) (ts : Txns) → is_shape h.orders h.finals ≡ true → IsAccepted h ts → Agrees h ts

-- in a checked history a committed transaction selects of a key either the unborn version or one of the key's
-- version order
abbrev pub SelectedIsInstalled : Type 0
SelectedIsInstalled = (h : History) (e : Event) (k : Key) (p : ℕ) → IsChecked h → Contains h.events e
    → is_committed h.events (txn_of e) ≡ true → selected h e k ≡ Some p → 0 < p → (t : ℕ) × (installer h k p ≡ Some t)
