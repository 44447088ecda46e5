-- Directed graphs as lists of nodes and arcs, their topological orders and their cycles.
use Rattle.std.specs.Prelude.{◌≡◌, ℕ, suc, ◌==◌, ◌<◌, ◌≤◌, true, cond, List, [], ◌∷◌, Contains, count_by}
use Rattle.std.specs.List.{list_any, AllByRecursion}
use Rattle.std.specs.Ordering.{nat_cmp, ordering_then}
use Rattle.std.specs.declared.cmp.Ordering.{Ordering}
use Rattle.digraph.specs.declared.arc.Arc.{Arc}
use Rattle.digraph.specs.declared.order.Outcome.{Outcome}
use Rattle.digraph.specs.declared.order.Outcome.TheVariants.{Order, Cycle}

-- by the node that an arc leaves, and then by the node that it enters
abbrev pub arc_cmp : Arc → Arc → Ordering
arc_cmp a b = ordering_then (nat_cmp a.from b.from) (nat_cmp a.to b.to)

-- the ends of each arc are nodes
abbrev pub IsGraph : List ℕ → List Arc → Type 0
IsGraph nodes arcs = (a : Arc) → Contains arcs a
    → (list_any (λ u. u == a.from) nodes ≡ true) × (list_any (λ u. u == a.to) nodes ≡ true)

-- how many nodes stand in the list before this one; all of them, if it isn't there
abbrev pub place : List ℕ → ℕ → ℕ
place [] t = 0
place (x ∷ ts) t = cond (x == t) 0 (suc (place ts t))

abbrev pub IsBefore : List ℕ → ℕ → ℕ → Type 0
IsBefore ts a b = place ts a < place ts b

-- each arc goes forward in the list
abbrev pub AreForward : List ℕ → List Arc → Type 0
AreForward ts arcs = (a : Arc) → Contains arcs a → IsBefore ts a.from a.to

-- each node once and no other, and each arc forward
pub record IsTopologicalOrder (nodes : List ℕ) (arcs : List Arc) (ts : List ℕ) : Type 0 where
  pub nodes_once : (t : ℕ) → count_by (λ u. u == t) ts ≡ cond (list_any (λ u. u == t) nodes) 1 0
  pub forward : AreForward ts arcs

-- a path from one node to another: each arc leaves the node that the one before enters
abbrev pub IsPath : ℕ → List Arc → ℕ → Type 0
IsPath s [] t = s ≡ t
IsPath s (a ∷ path) t = (a.from ≡ s) × IsPath a.to path t

-- at least one of the arcs, in a path from a node to itself
abbrev pub IsCycle : List Arc → List Arc → Type 0
IsCycle arcs [] = ⊥
IsCycle arcs (a ∷ path) = AllByRecursion (Contains arcs) (a ∷ path) × IsPath a.from (a ∷ path) a.from

abbrev pub IsOrderOrCycle : List ℕ → List Arc → Outcome → Type 0
IsOrderOrCycle nodes arcs (Order ts) = IsTopologicalOrder nodes arcs ts.items
IsOrderOrCycle nodes arcs (Cycle path) = IsCycle arcs path.items

-- each node begins one of the arcs at most
abbrev pub IsSimple : List Arc → Type 0
IsSimple path = (t : ℕ) → count_by (λ (a : Arc). a.from == t) path ≤ 1

-- a cycle goes through no node twice
abbrev pub CycleIsSimple : Outcome → Type 0
CycleIsSimple (Order ts) = Unit {0}
CycleIsSimple (Cycle path) = IsSimple path.items
