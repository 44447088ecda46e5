-- What is recorded of the acts of a course, and its history.
use Rattle.std.specs.Prelude.{ℕ, suc, List, [], ◌∷◌, ◌++◌, Option, Some, None}
use Rattle.adya_values.specs.declared.edition.Edition.TheVariants.{Two}
use Rattle.adya_keys.specs.Meaning.Keys.{Key}
use Rattle.adya_values.specs.Meaning.Histories.{Entry, Content, Live, Dead, Event, Write, Delete, Read, Scan, Commit, Abort, History}
use Rattle.ssi_recorder.specs.Meaning.Recorded.{history_of_events}
use Rattle.ssi_store.specs.Meaning.Courses.{Course}
use Rattle.ssi_store.specs.Meaning.Acts.{Act, Writes, Gets, Scans, Commits, Aborts, acts, open_txns}
use Rattle.ssi_store.specs.Meaning.Seeing.{write_count, sees, scanned}

abbrev pub write_event : ℕ → Key → ℕ → Content → Event
write_event t k m (Live v) = Write t k m v
write_event t k m Dead = Delete t k m

abbrev pub get_found : ℕ → Key → Entry → Content → Event
get_found t k w (Live v) = Read t w.version v
get_found t k w Dead = Scan t k k (w ∷ [])

-- a get that finds a visible version is a read, and any other a scan of the key alone
abbrev pub get_event : ℕ → Key → Option Entry → Event
get_event t k None = Scan t k k []
get_event t k (Some w) = get_found t k w w.content

-- of an act after this log
abbrev pub recorded : Act → List Act → List Event
recorded (Writes t k c) log = write_event t k (suc (write_count t k log)) c ∷ []
recorded (Gets t k) log = get_event t k (sees t k log) ∷ []
recorded (Scans t low high) log = Scan t low high (scanned t low high log) ∷ []
recorded (Commits t) log = Commit t ∷ []
recorded (Aborts t) log = Abort t ∷ []
recorded _ log = []

abbrev pub events : List Act → List Event
events [] = []
events (a ∷ log) = events log ++ recorded a log

-- its open transactions are unfinished
abbrev pub dumped : Course → History
dumped c = history_of_events Two (open_txns (acts c)) (events (acts c))
