-- What an index of events is made of.
use Rattle.std.specs.Prelude.{ℕ, Bool, ◌||◌, ◌==◌, List, Option}
use Rattle.std.specs.List.{list_any}
use Rattle.adya_values.specs.declared.events.Events.{Events}
use Rattle.adya_keys.specs.Meaning.Keys.{Key}
use Rattle.adya_values.specs.Meaning.Histories.{Event}
use Rattle.adya_values.specs.Mirror.Events.{events_of}
use Rattle.adya_values.specs.Mirror.Numbers.{keys_of}
use Rattle.adya_values.specs.Clauses.Rules.{has_ended}
use Rattle.adya_terms.specs.declared.event_index.EventIndex.{EventIndex}
use Rattle.adya_terms.specs.Machinery.OwnWrites.{place_of}
use Rattle.adya_terms.specs.Machinery.Tables.{Own}

abbrev pub events_in : EventIndex → Events
events_in x = x.tables.writes.events.now

-- the events
abbrev pub indexed : EventIndex → List Event
indexed x = events_of (events_in x)

-- the keys by their numbers
abbrev pub keys_in : EventIndex → List Key
keys_in x = keys_of (events_in x)

-- the unfinished transactions
abbrev pub unfinished_in : EventIndex → List ℕ
unfinished_in x = x.unfinished.now

-- the places of last writes
abbrev pub last_in : EventIndex → Own → Option ℕ
last_in x = place_of x.tables.writes

-- the transaction has ended or is unfinished
abbrev pub is_done : EventIndex → ℕ → Bool
is_done x t = has_ended (indexed x) t || list_any (λ u. u == t) (unfinished_in x)
