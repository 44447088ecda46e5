-- Segments of a log, each of which begins with what the one before has left.
use Rattle.std.specs.Prelude.{◌≡◌, ◌↔◌, not, List, [], ◌∷◌, Some, None, filter, flat_map, Contains}
use Rattle.adya_keys.specs.Meaning.Keys.{Key, Bytes}
use Rattle.adya_values.specs.Meaning.Histories.{Txns, Event, FinalPair, History}
use Rattle.adya_values.specs.Meaning.Serial.{Contents, pair, serial_events}
use Rattle.adya_values.specs.Clauses.Acceptance.{IsAccepted}
use Rattle.ssi_store.specs.Meaning.Acts.{acts, has_begun}
use Rattle.ssi_store.specs.Meaning.Contents.{contents_after}
use Rattle.ssi_store.specs.Meaning.Courses.{Course, New, txn_in}
use Rattle.ssi_store.specs.Clauses.Finished.{finished}
use Rattle.ssi_durable.specs.Meaning.Replays.{Replays}

pub record Segment : Type 0 where
  -- the lines that load what it begins with, and the course to which they lead
  pub loads : List Bytes
  pub loaded : Course
  -- the lines after them, and the course to which these lead
  pub rest : List Bytes
  pub course : Course
  -- the certificate of its history
  pub serial : Txns

abbrev pub history_of : Segment → History
history_of s = finished s.course

-- its first lines load these rows, so that it holds them and no session has a transaction. Its history is accepted
pub record IsSegment (rows : List FinalPair) (s : Segment) : Type 0 where
  pub load : Replays (New 1) s.loads s.loaded
  pub idle : (session : Bytes) → txn_in session s.loaded ≡ None
  pub holds : contents_after s.loaded ≡ rows
  pub replayed : Replays s.loaded s.rest s.course
  pub accepted : IsAccepted (history_of s) s.serial

-- the first one begins with these rows, and each of the others with what the one before has left
abbrev pub AreSegments : List FinalPair → List Segment → Type 0
AreSegments rows [] = Unit {0}
AreSegments rows (s ∷ ss) = IsSegment rows s × AreSegments (contents_after s.course) ss

-- what the last one has left
abbrev pub left_after : List FinalPair → List Segment → List FinalPair
left_after rows [] = rows
left_after rows (s ∷ ss) = left_after (contents_after s.course) ss

-- its certificate, without the transactions that load
abbrev pub own_serial : Segment → Txns
own_serial s = filter (λ t. not (has_begun t (acts s.loaded))) s.serial

-- the events of these transactions, one transaction after the other
abbrev pub own_events : Segment → List Event
own_events s = serial_events (history_of s) (own_serial s)

-- those of all segments, the first one first
abbrev pub all_events : List Segment → List Event
all_events ss = flat_map own_events ss

-- the map has these keys with these values, and no others
abbrev pub Holds : Contents → List FinalPair → Type 0
Holds m rows = (k : Key) (v : Bytes) → (m k ≡ Some v) ↔ Contains rows (pair k v)
