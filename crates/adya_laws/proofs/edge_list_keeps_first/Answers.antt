use Rattle.adya_laws.proofs.EdgeList.{edges_found}
use Rattle.adya_laws.proofs.edge_list_keeps_first.Goals as goal

pub returns : goal.returns
returns c h p = edges_found h p
