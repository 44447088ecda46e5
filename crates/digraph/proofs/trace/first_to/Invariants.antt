use Rattle.std.proofs.Common.{◌≡◌, ◌==◌, drop}
use Rattle.std.specs.List.{list_any}
use Rattle.digraph.proofs.trace.first_to.Given as goal

abbrev pub invariant-loop-i : goal.invariant-loop-i
invariant-loop-i l = list_any (λ a. a.to == l.at) l.path ≡ list_any (λ a. a.to == l.at) (drop l.i l.path)
