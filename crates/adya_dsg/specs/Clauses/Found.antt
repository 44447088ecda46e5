-- What is found of a history: a certificate, or a cycle of its graph.
use Rattle.std.specs.Prelude.{ℕ, ◌==◌, ◌≤◌, List, map, count_by}
use Rattle.adya_values.specs.Meaning.Histories.{Txns, History}
use Rattle.adya_values.specs.Meaning.Edges.{Edge, IsCycle}
use Rattle.adya_values.specs.Clauses.Acceptance.{IsAccepted}
use Rattle.adya_values.specs.Mirror.Histories.{serial_txns}
use Rattle.adya_dsg.specs.Mirror.{edge_of}
use Rattle.adya_dsg.specs.declared.found.Found.{Found}
use Rattle.adya_dsg.specs.declared.found.Found.TheVariants.{Serial, Cycle}

-- the history is accepted with some certificate
abbrev pub HasCertificate : History → Type 0
HasCertificate h = (ts : Txns) × IsAccepted h ts

-- the history is accepted with the certificate, or its graph has the cycle
abbrev pub IsFound : History → Found → Type 0
IsFound h (Serial s) = IsAccepted h (serial_txns s)
IsFound h (Cycle es) = IsCycle h (map edge_of es.items)

-- each transaction begins one of the edges at most
abbrev pub IsSimple : List Edge → Type 0
IsSimple es = (t : ℕ) → count_by (λ (e : Edge). e.from == t) es ≤ 1

-- a cycle goes through no transaction twice
abbrev pub CycleIsSimple : Found → Type 0
CycleIsSimple (Serial s) = Unit {0}
CycleIsSimple (Cycle es) = IsSimple (map edge_of es.items)

-- beside a cycle there is no certificate with which the history is accepted
abbrev pub NoneBesideCycle : History → Found → Type 0
NoneBesideCycle h (Serial s) = Unit {0}
NoneBesideCycle h (Cycle es) = HasCertificate h → ⊥
