use Rattle.std.proofs.Common.{◌≡◌, ◌++◌, ℕ, Some, map, drop, filter, flat_map, nat_lt}
use Rattle.adya_values.specs.Meaning.Orders.{installer}
use Rattle.adya_values.specs.Meaning.Edges.{Rw}
use Rattle.adya_values.specs.Computing.EdgeList.{joined}
use Rattle.adya_dsg.specs.Machinery.VersionOrders.{ordered_history}
use Rattle.adya_dsg.specs.Mirror.{edge_of}
use Rattle.adya_dsg.specs.Machinery.Choices.{key_at}
use Rattle.adya_dsg.proofs.event_edges.push_overwriters.Given as goal

abbrev pub invariant-loop-place : goal.invariant-loop-place
invariant-loop-place l =
    let h = ordered_history l.versions in
    let k = key_at h l.at.line in
    let gives = λ (q : ℕ). joined Rw k (Some l.txn) (installer h k q) in
    map edge_of l.edges.items ++ flat_map gives (filter (λ q. nat_lt l.seen q) (drop l.place-index l.changes)) ≡
    map edge_of l.initial.edges.items ++ flat_map gives (filter (λ q. nat_lt l.seen q) l.changes)
