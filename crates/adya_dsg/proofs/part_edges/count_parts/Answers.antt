use Rattle.adya_dsg.specs.Machinery.VersionOrders.{ordered_history}
use Rattle.adya_dsg.proofs.Parts.{count_of_parts}
use Rattle.adya_dsg.proofs.part_edges.count_parts.Goals as goal

pub line_count-requires : goal.line_count-requires
line_count-requires c = tt

pub event_count-requires : goal.event_count-requires
event_count-requires c = tt

pub returns : goal.returns
returns c = count_of_parts (ordered_history c.args.versions.now) _ _ c.line_count.ensures c.event_count.ensures
