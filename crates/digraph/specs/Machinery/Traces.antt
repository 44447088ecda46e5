-- Where a walk backward along the arcs ends.
use Rattle.std.specs.Prelude.{◌≡◌, ℕ, true, false, List, Contains}
use Rattle.std.specs.BTreeSet.{BTreeSet, contains}
use Rattle.std.specs.Ordering.{nat_cmp}
use Rattle.digraph.specs.Clauses.Graphs.{IsCycle, IsSimple}
use Rattle.digraph.specs.declared.arc.Arc.{Arc}
use Rattle.digraph.specs.declared.trace.Trace.{Trace}
use Rattle.digraph.specs.declared.trace.Trace.TheVariants.{Source, Cycle}

-- a remaining node, none of whose predecessors remains, or a simple cycle
abbrev pub IsTrace : List Arc → BTreeSet ℕ → Trace → Type 0
IsTrace arcs remaining (Source t) = (contains nat_cmp remaining t ≡ true)
    × ((a : Arc) → Contains arcs a → a.to ≡ t → contains nat_cmp remaining a.from ≡ false)
IsTrace arcs remaining (Cycle path) = IsCycle arcs path.items × IsSimple path.items
