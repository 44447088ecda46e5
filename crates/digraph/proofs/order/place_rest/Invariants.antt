use Rattle.std.proofs.Common.{ℕ, List}
use Rattle.std.specs.Ordering.{nat_cmp}
use Rattle.std.specs.BTreeSet.{contains, btree_set_len}
use Rattle.digraph.specs.Clauses.Graphs.{IsGraph}
use Rattle.digraph.specs.Machinery.Placings.{Places, IsPlacing}
use Rattle.digraph.proofs.order.place_rest.Given as goal

abbrev pub invariant-place : goal.invariant-place
invariant-place l = (nodes : List ℕ) → IsGraph nodes l.arcs → IsPlacing nodes l.arcs l.fn.begun
    → Places nodes l.placed.items l.arcs (contains nat_cmp l.remaining)

abbrev pub decreases-place : goal.decreases-place
decreases-place l = btree_set_len l.remaining
