-- What the transactions of segments are together.
use Rattle.std.specs.Prelude.{◌≡◌, ℕ, ◌==◌, not, ◌&&◌, cond, count_by, List}
use Rattle.std.specs.List.{AllByRecursion}
use Rattle.adya_values.specs.Meaning.Events.{is_committed}
use Rattle.adya_values.specs.Meaning.Histories.{FinalPair}
use Rattle.adya_values.specs.Meaning.Serial.{Contents, AllSee, run}
use Rattle.ssi_store.specs.Meaning.Acts.{acts, has_begun}
use Rattle.ssi_segments.specs.Meaning.Segments.{Segment, AreSegments, history_of, left_after, own_serial, all_events, Holds}

-- the list has each committed transaction once that doesn't load, and no other
abbrev pub ListsItsOwn : Segment → Type 0
ListsItsOwn s = (t : ℕ) → count_by (λ u. u == t) (own_serial s)
    ≡ cond (not (has_begun t (acts s.loaded)) && is_committed (history_of s).events t) 1 0

-- run from this map, each of their reads and scans sees what those before it have left, and at the end the map holds what the
-- last segment has left
pub record AreSerial (m : Contents) (rows : List FinalPair) (ss : List Segment) : Type 0 where
  pub listed : AllByRecursion ListsItsOwn ss
  pub see : AllSee m (all_events ss)
  pub finals : Holds (run m (all_events ss)) (left_after rows ss)

abbrev pub SegmentsAreSerial : Type 0
SegmentsAreSerial = (rows : List FinalPair) (ss : List Segment) → AreSegments rows ss → (m : Contents) → Holds m rows
    → AreSerial m rows ss
