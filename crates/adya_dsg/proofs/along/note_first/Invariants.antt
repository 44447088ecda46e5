use Rattle.std.proofs.Common.{◌++◌, List, map, take}
use Rattle.digraph.specs.declared.arc.Arc.{Arc}
use Rattle.adya_values.specs.Meaning.Edges.{Edge}
use Rattle.adya_dsg.specs.Mirror.{edge_of}
use Rattle.adya_dsg.specs.Machinery.Along.{HasFirst, Wants}
use Rattle.adya_dsg.proofs.along.note_first.Given as goal

abbrev pub invariant-loop-e : goal.invariant-loop-e
invariant-loop-e l = (cycle : List Arc) (before : List Edge) → Wants l.wanted cycle → HasFirst l.fn.first cycle before
    → HasFirst l.first cycle (before ++ map edge_of (take l.e-index l.edges))
