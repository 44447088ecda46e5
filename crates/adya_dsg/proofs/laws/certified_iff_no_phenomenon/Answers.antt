use Rattle.adya_dsg.proofs.Certificates.{certified}
use Rattle.adya_dsg.proofs.laws.certified_iff_no_phenomenon.Goals as goal

pub returns : goal.returns
returns c =
    certified c.accepted_has_no_phenomenon.ensures c.edge_list_is_exact.ensures c.edges_join_committed.ensures
    c.order_or_cycle_exists.ensures
