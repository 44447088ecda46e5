-- Which histories have a certificate with which they are accepted, and what a cycle implies.
use Rattle.std.specs.Prelude.{◌≡◌, ◌⊎◌, ◌↔◌, true, List}
use Rattle.adya_values.specs.Meaning.Histories.{Txns, History}
use Rattle.adya_values.specs.Meaning.Events.{is_committed}
use Rattle.adya_values.specs.Meaning.Edges.{Edge, IsEdge, IsCycle}
use Rattle.adya_values.specs.Clauses.Rules.{IsWellFormed}
use Rattle.adya_values.specs.Meaning.Phenomena.{HasG1, HasG1a, HasG1b, HasG2}
use Rattle.adya_values.specs.Clauses.Acceptance.{IsBefore, IsChecked}
use Rattle.adya_dsg.specs.Clauses.Found.{HasCertificate}

-- if there is a cycle, each edge goes forward in no list of transactions
abbrev pub CycleExcludesCertificates : Type 0
CycleExcludesCertificates = (h : History) (es : List Edge) → IsCycle h es
    → (ts : Txns) → ((e : Edge) → IsEdge h e → IsBefore ts e.from e.to) → ⊥

-- the ends of each edge of a checked history are committed transactions
abbrev pub EdgesJoinCommitted : Type 0
EdgesJoinCommitted = (h : History) → IsChecked h → (e : Edge) → IsEdge h e
    → (is_committed h.events e.from ≡ true) × (is_committed h.events e.to ≡ true)

-- a well-formed history is accepted with some certificate if and only if it shows neither G1 nor G2
abbrev pub CertifiedIffNoPhenomenon : Type 0
CertifiedIffNoPhenomenon = (h : History) → IsWellFormed h
    → HasCertificate h ↔ ((HasG1 h → ⊥) × (HasG2 h → ⊥))

-- a history with an aborted or an intermediate read shows G1, and is accepted with no certificate
abbrev pub BadReadExcludesCertificates : Type 0
BadReadExcludesCertificates = (h : History) → HasG1a h ⊎ HasG1b h → HasG1 h × (HasCertificate h → ⊥)
