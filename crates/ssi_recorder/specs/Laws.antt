-- What follows from the definitions.
use Rattle.std.specs.Prelude.{◌≡◌, nat_eq, List}
use Rattle.std.specs.List.{filter_map, IsDistinct}
use Rattle.adya_values.specs.Meaning.Histories.{Event}
use Rattle.adya_values.specs.Meaning.Events.{commit_of}
use Rattle.ssi_recorder.specs.Meaning.Recorded.{by_commit}

-- if no transaction commits twice, the committed transactions are those of the commits, one by one
abbrev pub CommitsAreListed : Type 0
CommitsAreListed = (events : List Event) → IsDistinct nat_eq (filter_map commit_of events)
    → by_commit events ≡ filter_map commit_of events
