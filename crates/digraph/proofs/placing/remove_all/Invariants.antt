use Rattle.std.proofs.Common.{◌≡◌, ◌==◌, ◌+◌, ℕ, cond, count_by, take}
use Rattle.digraph.specs.Machinery.NodeSets.{has}
use Rattle.digraph.proofs.placing.remove_all.Given as goal

abbrev pub invariant-loop-t : goal.invariant-loop-t
invariant-loop-t l = (q : ℕ) → count_by (λ u. u == q) (take l.t-index l.nodes) + cond (has l.set q) 1 0
    ≡ cond (has l.initial.set q) 1 0
