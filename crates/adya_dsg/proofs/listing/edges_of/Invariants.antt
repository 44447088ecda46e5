use Rattle.std.proofs.Common.{◌≡◌, [], map, fold}
use Rattle.adya_values.specs.Computing.EdgeList.{with_edge}
use Rattle.adya_dsg.specs.Machinery.VersionOrders.{ordered_history}
use Rattle.adya_dsg.specs.Mirror.{edge_of}
use Rattle.adya_dsg.proofs.Parts.{edges_before}
use Rattle.adya_dsg.proofs.listing.edges_of.Given as goal

abbrev pub invariant-loop-part : goal.invariant-loop-part
invariant-loop-part l = map edge_of l.set.keys ≡ fold with_edge [] (edges_before (ordered_history l.versions) l.part)
