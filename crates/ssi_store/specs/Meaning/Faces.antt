-- What steps and events show to the outside, and when a history records a course.
use Rattle.std.specs.Prelude.{◌≡◌, ℕ, List, [], ◌∷◌, ◌++◌, Option, Some, None, map}
use Rattle.adya_keys.specs.Meaning.Keys.{Key, Bytes}
use Rattle.adya_values.specs.Meaning.Histories.{Content, Live, Dead, Event, Write, Delete, Read, Scan, Commit, Abort, FinalPair, History}
use Rattle.adya_values.specs.Meaning.Serial.{visible_pairs}
use Rattle.ssi_store.specs.Meaning.Courses.{Command, Command as Do, Answer, Value, Absent, Done, Rows, Committed, Aborted, Conflict, Unsafe, Course, New, Then, txn_for}
use Rattle.ssi_snapshot.specs.Meaning.Reached.{reached}
use Rattle.ssi_store.specs.Meaning.Acts.{acts, open_txns}

pub data Face : Type 0 where
  Wrote : (txn : ℕ) (key : Key) (content : Content) → Face
  Got : (txn : ℕ) (key : Key) (value : Bytes) → Face
  Listed : (txn : ℕ) (low high : Key) (rows : List FinalPair) → Face
  Commits : (txn : ℕ) → Face
  Aborts : (txn : ℕ) → Face

-- of a step of t; a limited scan shows the range as far as it looked
abbrev pub face_in : ℕ → Command → Answer → List Face
face_in t (Do.Put s k v) Done = Wrote t k (Live v) ∷ []
face_in t (Do.Del s k) Done = Wrote t k Dead ∷ []
face_in t (Do.Get s k) (Value v) = Got t k v ∷ []
face_in t (Do.Get s k) Absent = Listed t k k [] ∷ []
face_in t (Do.Scan s low high) (Rows rows) = Listed t low high rows ∷ []
face_in t (Do.ScanFirst s low high n) (Rows rows) = Listed t low (reached high n rows) rows ∷ []
face_in t command Committed = Commits t ∷ []
face_in t command Aborted = Aborts t ∷ []
face_in t command (Conflict k w) = Aborts t ∷ []
face_in t command (Unsafe p) = Aborts t ∷ []
face_in t command answer = []

-- if the session had this transaction before
abbrev pub face_by : Option ℕ → Command → Answer → List Face
face_by None command answer = []
face_by (Some t) command answer = face_in t command answer

abbrev pub faces : Course → List Face
faces (New first) = []
faces (Then c command answer) = faces c ++ face_by (txn_for command c) command answer

-- no version, and of a scan the visible pairs alone
abbrev pub face_of : Event → Face
face_of (Write t k m v) = Wrote t k (Live v)
face_of (Delete t k m) = Wrote t k Dead
face_of (Read t r v) = Got t r.key v
face_of (Scan t low high es) = Listed t low high (visible_pairs es)
face_of (Commit t) = Commits t
face_of (Abort t) = Aborts t

-- the events show what the steps show, in order, and after that each transaction that is still open aborts, the smallest
-- number first
abbrev pub Records : History → Course → Type 0
Records h c = map face_of h.events ≡ faces c ++ map Aborts (open_txns (acts c))

-- the same, but the open transactions are unfinished
pub record RecordsSoFar (h : History) (c : Course) : Type 0 where
  pub steps : map face_of h.events ≡ faces c
  pub still_open : h.unfinished ≡ open_txns (acts c)
