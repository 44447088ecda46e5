-- The first edges along arcs.
use Rattle.std.specs.Prelude.{◌≡◌, ℕ, ◌==◌, Bool, ◌&&◌, List, Option, Contains, option_map}
use Rattle.std.specs.List.{find, list_any}
use Rattle.std.specs.BTreeMap.{BTreeMap, get}
use Rattle.std.specs.BTreeSet.{BTreeSet, contains}
use Rattle.std.specs.Ordering.{nat_cmp, ordering_then}
use Rattle.std.specs.declared.cmp.Ordering.{Ordering}
use Rattle.digraph.specs.declared.arc.Arc.{Arc}
use Rattle.adya_values.specs.Meaning.Edges.{Edge}
use Rattle.adya_dsg.specs.declared.edge.Edge.{Edge as EdgeValue}
use Rattle.adya_dsg.specs.Mirror.{edge_of}

-- the edge has the ends of the arc
abbrev pub joins : Arc → Edge → Bool
joins a e = (e.from == a.from) && (e.to == a.to)

-- the first edge with the ends of the arc
abbrev pub first_along : List Edge → Arc → Option Edge
first_along es a = find (joins a) es

-- by the first end, and then by the second
abbrev pub ends_cmp : ℕ × ℕ → ℕ × ℕ → Ordering
ends_cmp p q = ordering_then (nat_cmp p.0 q.0) (nat_cmp p.1 q.1)

-- the set has the ends of the arcs of the cycle and no others
abbrev pub Wants : BTreeSet (ℕ × ℕ) → List Arc → Type 0
Wants s cycle = (q : ℕ × ℕ) → contains ends_cmp s q ≡ list_any (λ a. (a.from == q.0) && (a.to == q.1)) cycle

-- for each arc of the cycle the map has the first of the edges with its ends
abbrev pub HasFirst : BTreeMap (ℕ × ℕ) EdgeValue → List Arc → List Edge → Type 0
HasFirst m cycle es = (a : Arc) → Contains cycle a → option_map edge_of (get ends_cmp m (a.from, a.to)) ≡ first_along es a
