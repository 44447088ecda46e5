use Rattle.std.proofs.Common.{length, ◌-◌, ◌≤◌}
use Rattle.std.specs.Ordering.{nat_cmp}
use Rattle.std.specs.BTreeSet.{contains}
use Rattle.digraph.proofs.IncomingArcs.{NoneBefore}
use Rattle.digraph.proofs.incoming.arc_from_remaining.Given as goal

abbrev pub invariant-loop-i : goal.invariant-loop-i
invariant-loop-i l = (l.initial.i ≤ l.i) × NoneBefore l.arcs (contains nat_cmp l.remaining) l.to l.i

abbrev pub decreases-loop-i : goal.decreases-loop-i
decreases-loop-i l = length l.arcs - l.i
