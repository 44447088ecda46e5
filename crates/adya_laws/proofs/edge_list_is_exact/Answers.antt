use Rattle.adya_laws.proofs.EdgeList.{edge_listed, listed_edge}
use Rattle.adya_laws.proofs.edge_list_is_exact.Goals as goal

pub returns : goal.returns
returns c h e = (edge_listed h e, listed_edge h e)
