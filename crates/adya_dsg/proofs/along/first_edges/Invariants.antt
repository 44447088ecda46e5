use Rattle.adya_dsg.specs.Machinery.VersionOrders.{ordered_history}
use Rattle.adya_dsg.specs.Machinery.Along.{HasFirst}
use Rattle.adya_dsg.proofs.Parts.{edges_before}
use Rattle.adya_dsg.proofs.along.first_edges.Given as goal

abbrev pub invariant-loop-part : goal.invariant-loop-part
invariant-loop-part l = HasFirst l.first l.cycle (edges_before (ordered_history l.versions) l.part)
