-- The history of a course that is over.
use Rattle.std.specs.Prelude.{if◌then◌else◌, List, [], ◌∷◌}
use Rattle.adya_values.specs.declared.edition.Edition.TheVariants.{One}
use Rattle.adya_values.specs.Meaning.Histories.{Txns, History}
use Rattle.ssi_recorder.specs.Meaning.Recorded.{history_of_events}
use Rattle.ssi_store.specs.Meaning.Courses.{Course}
use Rattle.ssi_store.specs.Meaning.Acts.{Act, Aborts, acts, begun, is_open}
use Rattle.ssi_store.specs.Meaning.Recording.{events}

-- the log after an abort of each of these transactions that is open
abbrev pub close : Txns → List Act → List Act
close [] log = log
close (t ∷ ts) log = close ts (if is_open t log then Aborts t ∷ log else log)

-- the log after its end: whoever is still open aborts, the smallest number first
abbrev pub closed : List Act → List Act
closed log = close (begun log) log

-- the history of a course that is over: its open transactions are aborted
abbrev pub finished : Course → History
finished c = history_of_events One [] (events (closed (acts c)))
