-- What the transactions of a course did, without sessions and answers. The newest act stands first, so that the tail of
-- a log is what was before.
use Rattle.std.specs.Prelude.{ℕ, suc, ◌==◌, Bool, false, not, ◌&&◌, ◌||◌, if◌then◌else◌, List, [], ◌∷◌, ◌++◌, Option, Some, None, filter}
use Rattle.adya_keys.specs.Meaning.Keys.{Key}
use Rattle.adya_values.specs.Meaning.Histories.{Txns, Content, Live, Dead}
use Rattle.ssi_snapshot.specs.Meaning.Reached.{reached}
use Rattle.ssi_store.specs.Meaning.Courses.{Command, Command as Do, Answer, Begun, Value, Absent, Done, Rows, Committed, Aborted, Conflict, Unsafe, Kept, Course, New, Then, txn_for}

pub data Act : Type 0 where
  Begins : (txn : ℕ) → Act
  Writes : (txn : ℕ) (key : Key) (content : Content) → Act
  Gets : (txn : ℕ) (key : Key) → Act
  Scans : (txn : ℕ) (low high : Key) → Act
  Commits : (txn : ℕ) → Act
  Aborts : (txn : ℕ) → Act
  Collects : Act

-- what t does by a command with this answer: nothing if it was refused
abbrev pub act_of : ℕ → Command → Answer → List Act
act_of t (Do.Put s k v) Done = Writes t k (Live v) ∷ []
act_of t (Do.Del s k) Done = Writes t k Dead ∷ []
act_of t (Do.Get s k) (Value v) = Gets t k ∷ []
act_of t (Do.Get s k) Absent = Gets t k ∷ []
act_of t (Do.Scan s low high) (Rows rows) = Scans t low high ∷ []
act_of t (Do.ScanFirst s low high n) (Rows rows) = Scans t low (reached high n rows) ∷ []
act_of t command Committed = Commits t ∷ []
act_of t command Aborted = Aborts t ∷ []
act_of t command (Conflict k w) = Aborts t ∷ []
act_of t command (Unsafe p) = Aborts t ∷ []
act_of t command answer = []

-- if the session had this transaction before
abbrev pub act_by : Option ℕ → Command → Answer → List Act
act_by t command (Begun n) = Begins n ∷ []
act_by t command (Kept n) = Collects ∷ []
act_by (Some t) command answer = act_of t command answer
act_by None command answer = []

abbrev pub acts : Course → List Act
acts (New first) = []
acts (Then c command answer) = act_by (txn_for command c) command answer ++ acts c

abbrev pub has_begun : ℕ → List Act → Bool
has_begun t [] = false
has_begun t (Begins u ∷ log) = (u == t) || has_begun t log
has_begun t (a ∷ log) = has_begun t log

abbrev pub has_committed : ℕ → List Act → Bool
has_committed t [] = false
has_committed t (Commits u ∷ log) = (u == t) || has_committed t log
has_committed t (a ∷ log) = has_committed t log

abbrev pub has_aborted : ℕ → List Act → Bool
has_aborted t [] = false
has_aborted t (Aborts u ∷ log) = (u == t) || has_aborted t log
has_aborted t (a ∷ log) = has_aborted t log

abbrev pub is_open : ℕ → List Act → Bool
is_open t log = has_begun t log && not (has_committed t log || has_aborted t log)

-- in the order in which they began
abbrev pub begun : List Act → Txns
begun [] = []
begun (Begins t ∷ log) = begun log ++ t ∷ []
begun (a ∷ log) = begun log

-- the open ones, by rising number
abbrev pub open_txns : List Act → Txns
open_txns log = filter (λ t. is_open t log) (begun log)

abbrev pub operations : ℕ → List Act → ℕ
operations t [] = 0
operations t (Writes u k c ∷ log) = if u == t then suc (operations t log) else operations t log
operations t (Gets u k ∷ log) = if u == t then suc (operations t log) else operations t log
operations t (Scans u low high ∷ log) = if u == t then suc (operations t log) else operations t log
operations t (a ∷ log) = operations t log
