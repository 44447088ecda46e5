-- The lines so far are written.
use Rattle.std.proofs.Common.{take, map}
use Rattle.std.specs.Prelude.{flat_map}
use Rattle.devices.specs.Clauses.Writing.{Grew}
use Rattle.adya_dsg.specs.Mirror.{edge_of}
use Rattle.adya_audit.specs.Clauses.Output.{edge_line}
use Rattle.adya_audit.proofs.cycle.put_edges.Given as goal

abbrev pub invariant-loop-edge : goal.invariant-loop-edge
invariant-loop-edge g l =
    Grew g.W.Write.contents l.initial.out l.out (flat_map edge_line (map edge_of (take l.edge-index l.edges)))
