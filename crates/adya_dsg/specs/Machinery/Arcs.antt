-- Arcs: the ends of edges by themselves.
use Rattle.std.specs.Prelude.{◌≡◌, ℕ, List, Contains}
use Rattle.adya_values.specs.Meaning.Edges.{Edge}
use Rattle.adya_values.specs.Clauses.Acceptance.{IsBefore}
use Rattle.digraph.specs.declared.arc.Arc.{Arc}
use Rattle.digraph.specs.declared.order.Outcome.{Outcome}
use Rattle.digraph.specs.Clauses.Graphs.{CycleIsSimple, IsOrderOrCycle}

-- the ends of the edge
abbrev pub ends : Edge → Arc
ends e = record { from = e.from; to = e.to }

-- an edge of the list has the ends of the arc
pub record HasEdge (es : List Edge) (a : Arc) : Type 0 where
  pub edge : Edge
  pub stands : Contains es edge
  pub from : edge.from ≡ a.from
  pub to : edge.to ≡ a.to

-- each arc has the ends of an edge of the list
abbrev pub AreEnds : List Edge → List Arc → Type 0
AreEnds es arcs = (a : Arc) → Contains arcs a → HasEdge es a

-- if each arc goes forward in an order, so does each edge of the list
abbrev pub Decide : List Edge → List Arc → Type 0
Decide es arcs = (ts : List ℕ) → ((a : Arc) → Contains arcs a → IsBefore ts a.from a.to)
    → (e : Edge) → Contains es e → IsBefore ts e.from e.to

-- an order of the nodes, or a simple cycle, by arcs that have the ends of these edges and decide about them
pub record IsSorted (es : List Edge) (nodes : List ℕ) (outcome : Outcome) : Type 0 where
  pub arcs : List Arc
  pub sound : AreEnds es arcs
  pub enough : Decide es arcs
  pub is : IsOrderOrCycle nodes arcs outcome
  pub simple : CycleIsSimple outcome
