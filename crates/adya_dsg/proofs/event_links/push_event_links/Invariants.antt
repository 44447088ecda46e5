use Rattle.std.proofs.Common.{◌≡◌, ◌++◌, map, drop, flat_map}
use Rattle.adya_dsg.specs.Machinery.VersionOrders.{ordered_history}
use Rattle.adya_dsg.specs.Machinery.Arcs.{ends}
use Rattle.adya_dsg.specs.Machinery.Choices.{choice_of, event_at}
use Rattle.adya_dsg.specs.Machinery.Links.{choice_links, event_links}
use Rattle.adya_dsg.proofs.event_links.push_event_links.Given as goal

abbrev pub invariant-loop-at : goal.invariant-loop-at
invariant-loop-at l =
    let h = ordered_history l.versions in
    let e = event_at h l.event in
    l.links.items ++ map ends (flat_map (choice_links h e) (map (choice_of h) (drop l.at-index l.at-items))) ≡
    l.fn.links.items ++ map ends (event_links h e)
