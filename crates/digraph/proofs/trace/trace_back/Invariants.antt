use Rattle.std.proofs.Common.{◌≡◌, ℕ, ◌+◌, ◌≤◌, true, false, ◌==◌, cond, List, reverse, All, Contains}
use Rattle.std.specs.List.{list_any}
use Rattle.std.specs.Ordering.{nat_cmp}
use Rattle.std.specs.BTreeSet.{BTreeSet, contains, btree_set_len}
use Rattle.digraph.specs.declared.arc.Arc.{Arc}
use Rattle.digraph.specs.Clauses.Graphs.{IsPath}
use Rattle.digraph.proofs.SimpleCycles.{enter}
use Rattle.digraph.proofs.trace.trace_back.Given as goal

pub record Walks (arcs trail : List Arc) (remaining unmet : BTreeSet ℕ) (from at : ℕ) : Type 0 where
  pub is_remaining : contains nat_cmp remaining at ≡ true
  pub path : IsPath at (reverse trail) from
  pub known : All (Contains arcs) trail
  pub met : (q : ℕ) → contains nat_cmp remaining q ≡ true → contains nat_cmp unmet q ≡ false
      → list_any (λ a. a.to == q) trail ≡ true
  pub once : (q : ℕ) → enter trail q + cond (contains nat_cmp unmet q) 1 0 ≤ 1

abbrev pub invariant-back : goal.invariant-back
invariant-back l = Walks l.arcs l.trail.items l.remaining l.unmet l.fn.from l.at

abbrev pub decreases-back : goal.decreases-back
decreases-back l = btree_set_len l.unmet
