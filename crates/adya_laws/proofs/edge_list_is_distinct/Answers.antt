use Rattle.adya_laws.proofs.EdgeList.{edges_distinct}
use Rattle.adya_laws.proofs.edge_list_is_distinct.Goals as goal

pub returns : goal.returns
returns c h = edges_distinct h
