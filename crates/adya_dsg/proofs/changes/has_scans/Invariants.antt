use Rattle.std.proofs.Common.{◌≡◌, drop}
use Rattle.std.specs.List.{list_any}
use Rattle.adya_values.specs.Meaning.Selections.{is_scan}
use Rattle.adya_values.specs.Mirror.Events.{events_of}
use Rattle.adya_dsg.proofs.changes.has_scans.Given as goal

abbrev pub invariant-loop-event : goal.invariant-loop-event
invariant-loop-event l =
    list_any is_scan (events_of l.events) ≡ list_any is_scan (drop l.event (events_of l.events))
