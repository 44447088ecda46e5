-- Some nodes of a graph in an order, and the nodes that remain.
use Rattle.std.specs.Prelude.{◌≡◌, ◌⊎◌, ℕ, ◌+◌, ◌==◌, ◌<◌, Bool, true, false, cond, List, Contains, count_by, length, slice_index}
use Rattle.std.specs.List.{list_any}
use Rattle.std.specs.BTreeSet.{contains}
use Rattle.std.specs.Ordering.{nat_cmp}
use Rattle.digraph.specs.declared.arc.Arc.{Arc}
use Rattle.digraph.specs.declared.placing.Placing.{Placing}
use Rattle.digraph.specs.Clauses.Graphs.{IsBefore}

-- each node is placed once or remaining, and each arc to a placed one goes forward
pub record Places (nodes placed : List ℕ) (arcs : List Arc) (remaining : ℕ → Bool) : Type 0 where
  pub once : (q : ℕ) → count_by (λ u. u == q) placed + cond (remaining q) 1 0 ≡ cond (list_any (λ u. u == q) nodes) 1 0
  pub forward : (a : Arc) → Contains arcs a → remaining a.to ≡ false → IsBefore placed a.from a.to

-- the same of a value
abbrev pub IsPlacing : List ℕ → List Arc → Placing → Type 0
IsPlacing nodes arcs p = Places nodes p.placed.items arcs (contains nat_cmp p.remaining)

-- the ends of the arc stand in the list, and the first one before the second
pub record StandsForward (ts : List ℕ) (a : Arc) : Type 0 where
  pub from_place : ℕ
  pub to_place : ℕ
  pub rises : from_place < to_place
  pub within : to_place < length ts
  pub from_there : slice_index ts from_place ≡ a.from
  pub to_there : slice_index ts to_place ≡ a.to

-- the arc goes forward in the list, or into a node that remains
abbrev pub KeepsOrder : List ℕ → (ℕ → Bool) → Arc → Type 0
KeepsOrder ts remaining a = StandsForward ts a ⊎ (remaining a.to ≡ true)
