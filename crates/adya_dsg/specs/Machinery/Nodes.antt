-- The nodes of a history's graph.
use Rattle.std.specs.Prelude.{ℕ, List}
use Rattle.std.specs.List.{filter_map}
use Rattle.adya_values.specs.Meaning.Histories.{Event}
use Rattle.adya_values.specs.Meaning.Events.{commit_of}

-- the committed transactions, in the order of their commits
abbrev pub committed : List Event → List ℕ
committed events = filter_map commit_of events
