use Rattle.std.proofs.Common.{◌≡◌, ◌<◌, ◌+◌, List, length, slice_index_or, subst}
use Rattle.digraph.specs.declared.arc.Arc.{Arc}
use Rattle.digraph.proofs.Cycles.{cycle_cut}
use Rattle.digraph.proofs.SimpleCycles.{cut_is_simple}
use Rattle.digraph.proofs.trace.close.Goals as goal

pub returns-clause-closes : goal.returns-clause-closes
returns-clause-closes c =
    cycle_cut c.args.graph.now c.args.path.now.items _ _ c.args.at c.first_to.result c.least_start.result
    c.requires.path c.requires.known
    (subst (λ (xs : List Arc). c.first_to.result < length xs) c.deref.ensures.value c.first_to.ensures.within)
    (subst (λ (xs : List Arc). (d : Arc)
    → (slice_index_or xs c.first_to.result d).to ≡ c.args.at) c.deref.ensures.value c.first_to.ensures.returns)
    c.truncate.ensures.items c.rotate_left.ensures.items

pub returns-clause-simple : goal.returns-clause-simple
returns-clause-simple c =
    cut_is_simple c.args.graph.now c.args.path.now.items _ _ (c.first_to.result + 1) c.least_start.result
    c.requires.once c.truncate.ensures.items c.rotate_left.ensures.items (returns-clause-closes c)
