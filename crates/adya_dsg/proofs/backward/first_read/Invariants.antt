use Rattle.std.proofs.Common.{◌≡◌, drop, filter, flat_map}
use Rattle.std.specs.List.{find}
use Rattle.adya_values.specs.Meaning.Events.{txn_of, is_committed}
use Rattle.adya_values.specs.Computing.EdgeList.{event_edges}
use Rattle.adya_dsg.specs.Machinery.VersionOrders.{ordered_history}
use Rattle.adya_dsg.specs.Machinery.PartEdges.{is_backward}
use Rattle.adya_dsg.proofs.backward.first_read.Given as goal

abbrev pub invariant-loop-event : goal.invariant-loop-event
invariant-loop-event l =
    let h = ordered_history l.versions in
    find (is_backward l.certificate.txns.now)
    (flat_map (event_edges h) (filter (λ e. is_committed h.events (txn_of e)) h.events))
    ≡ find (is_backward l.certificate.txns.now)
    (flat_map (event_edges h) (filter (λ e. is_committed h.events (txn_of e)) (drop l.event h.events)))
