-- What a store holds after a course.
use Rattle.std.specs.Prelude.{List}
use Rattle.std.specs.List.{filter_map}
use Rattle.adya_values.specs.Meaning.Histories.{Entry, FinalPair}
use Rattle.adya_values.specs.Meaning.Serial.{visible_pairs}
use Rattle.ssi_store.specs.Meaning.Acts.{Act, acts}
use Rattle.ssi_store.specs.Meaning.Courses.{Course}
use Rattle.ssi_store.specs.Meaning.Seeing.{commit_count, committed, keys}

-- the newest committed version of each key, dead ones included
abbrev pub newest_entries : List Act → List Entry
newest_entries log = filter_map (λ k. committed k (commit_count log) log) (keys log)

-- by rising key, what a transaction sees that begins now
abbrev pub contents_after : Course → List FinalPair
contents_after c = visible_pairs (newest_entries (acts c))
