use Rattle.std.proofs.Common.{◌≡◌, ◌++◌, map, drop, filter, flat_map}
use Rattle.adya_values.specs.Meaning.Events.{txn_of, is_committed}
use Rattle.adya_dsg.specs.Machinery.VersionOrders.{ordered_history}
use Rattle.adya_dsg.specs.Machinery.Arcs.{ends}
use Rattle.adya_dsg.specs.Machinery.Links.{event_links}
use Rattle.adya_dsg.proofs.links.add_event_arcs.Given as goal

abbrev pub invariant-loop-event : goal.invariant-loop-event
invariant-loop-event l =
    let h = ordered_history l.versions in
    l.arcs.items ++ map ends
    (flat_map (event_links h) (filter (λ e. is_committed h.events (txn_of e)) (drop l.event h.events)))
    ≡ l.fn.arcs.items ++ map ends (flat_map (event_links h) (filter (λ e. is_committed h.events (txn_of e)) h.events))
