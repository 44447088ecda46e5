use Rattle.std.proofs.Common.{◌≡◌, drop, fold}
use Rattle.std.specs.List.{filter_map}
use Rattle.adya_values.specs.Mirror.Events.{events_of}
use Rattle.adya_values.specs.Meaning.Events.{commit_of}
use Rattle.ssi_recorder.specs.Meaning.Recorded.{with_number, by_commit}
use Rattle.ssi_recorder.proofs.installs.committers.Given as goal

abbrev pub invariant-events : goal.invariant-events
invariant-events l =
    fold with_number l.committed.keys (filter_map commit_of (drop l.i (events_of l.events))) ≡ by_commit (events_of l.events)
