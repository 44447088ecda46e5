use Rattle.std.proofs.Common.{◌≡◌, map, take}
use Rattle.adya_values.specs.Mirror.Events.{event_of, events_of}
use Rattle.adya_testing.proofs.histories.packed.Given as goal

abbrev pub invariant-loop-event : goal.invariant-loop-event
invariant-loop-event l = events_of l.list ≡ map event_of (take l.event-index l.events)
