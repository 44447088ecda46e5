use Rattle.std.proofs.Common.{◌≤◌}
use Rattle.digraph.proofs.trace.least_start.Given as goal

abbrev pub invariant-loop-i : goal.invariant-loop-i
invariant-loop-i l = l.least ≤ l.i
