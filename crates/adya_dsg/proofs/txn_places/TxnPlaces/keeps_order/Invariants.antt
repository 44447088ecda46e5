use Rattle.std.proofs.Common.{◌≡◌, ◌∷◌, ℕ, List, drop}
use Rattle.std.specs.List.{list_all}
use Rattle.adya_values.specs.Computing.Certificates.{is_forward}
use Rattle.adya_dsg.specs.Machinery.PartEdges.{line_edges}
use Rattle.adya_dsg.proofs.txn_places.TxnPlaces.keeps_order.Given as goal

abbrev pub invariant-loop-to : goal.invariant-loop-to
invariant-loop-to l = (key : List ℕ)
    → list_all (is_forward l.self.txns.now) (line_edges key l.writers) ≡
    list_all (is_forward l.self.txns.now) (line_edges key (l.last ∷ drop l.to-index l.rest))
