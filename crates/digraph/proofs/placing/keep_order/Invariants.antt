use Rattle.std.proofs.Common.{ℕ, ◌<◌, length, slice_index_or}
use Rattle.digraph.specs.Machinery.NodeSets.{has}
use Rattle.digraph.specs.declared.arc.Arc.{Arc}
use Rattle.digraph.specs.Machinery.Placings.{KeepsOrder}
use Rattle.digraph.proofs.placing.keep_order.Given as goal

abbrev pub invariant-loop-a : goal.invariant-loop-a
invariant-loop-a l = (k : ℕ) (d : Arc) → k < l.a-index → k < length l.arcs
    → KeepsOrder l.candidate.nodes.items (has l.remaining) (slice_index_or l.arcs k d)
