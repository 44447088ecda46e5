-- What orders and cycles have to do with one another.
use Rattle.std.specs.Prelude.{◌⊎◌, ℕ, List}
use Rattle.digraph.specs.declared.arc.Arc.{Arc}
use Rattle.digraph.specs.Clauses.Graphs.{IsGraph, AreForward, IsTopologicalOrder, IsCycle}

-- if arcs form a cycle, no list has each of them go forward
abbrev pub CycleExcludesOrder : Type 0
CycleExcludesOrder = (arcs path : List Arc) → IsCycle arcs path → (ts : List ℕ) → AreForward ts arcs → ⊥

-- each graph has a topological order or a cycle
abbrev pub OrderOrCycleExists : Type 0
OrderOrCycleExists = (nodes : List ℕ) (arcs : List Arc) → IsGraph nodes arcs
    → ((ts : List ℕ) × IsTopologicalOrder nodes arcs ts) ⊎ ((path : List Arc) × IsCycle arcs path)
