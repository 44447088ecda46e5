use Rattle.std.proofs.Common.{sym, ◌∙◌}
use Rattle.adya_values.specs.Mirror.Numbers.{both_at, keys_of}
use Rattle.adya_dsg.specs.Machinery.VersionOrders.{ordered_history, ordered_events}
use Rattle.adya_dsg.specs.Machinery.Choices.{event_at}
use Rattle.adya_dsg.proofs.EventsAt.{any_scan, scan_told}
use Rattle.adya_dsg.proofs.version_orders.VersionOrders.is_scan.Goals as goal

pub bounds-requires : goal.bounds-requires
bounds-requires c = tt

pub returns-clause-scan : goal.returns-clause-scan
returns-clause-scan c =
    let g = c.args.self.now in
    c.is_some.ensures ∙
    scan_told (both_at (keys_of (ordered_events g))) c.bounds.result (event_at (ordered_history g) c.args.event) c.bounds.ensures.keys

pub returns-clause-some : goal.returns-clause-some
returns-clause-some c is =
    let g = c.args.self.now in
    any_scan (ordered_history g).events c.args.event
    (sym (c.is_some.ensures ∙
    scan_told (both_at (keys_of (ordered_events g))) c.bounds.result (event_at (ordered_history g) c.args.event) c.bounds.ensures.keys) ∙ is)
