-- What is seen of a recorder.
use Rattle.std.specs.Prelude.{◌≡◌, ℕ, ◌+◌, List}
use Rattle.adya_values.specs.Meaning.Histories.{Event}
use Rattle.adya_values.specs.Mirror.Events as lists
use Rattle.adya_values.specs.Mirror.Events.{HasRows, HasRoomFor}
use Rattle.ssi_recorder.specs.declared.recorder.Recorder.{Recorder}

-- the events so far, oldest first
abbrev pub events_of : Recorder → List Event
events_of r = lists.events_of r.events

-- how many places are kept for the ends of transactions
abbrev pub places_of : Recorder → ℕ
places_of r = r.places

-- one more event fits beside the kept places, if it lists no more than so many entries
abbrev pub HasRoom : Recorder → ℕ → Type 0
HasRoom r n = HasRows r.events (r.places + 1) × HasRoomFor r.events n

-- the same events and as many kept places
abbrev pub IsAsBefore : Recorder → Recorder → Type 0
IsAsBefore old new = (events_of new ≡ events_of old) × (places_of new ≡ places_of old)
