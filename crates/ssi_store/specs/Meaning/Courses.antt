-- Commands, answers and courses of a store, and which transaction a session has.
use Rattle.std.specs.Prelude.{ℕ, suc, Bool, false, if◌then◌else◌, List, Option, Some, None}
use Rattle.adya_keys.specs.Meaning.Keys.{Key, Bytes, key_eq}
use Rattle.adya_values.specs.Meaning.Histories.{FinalPair}

pub data Command : Type 0 where
  Begin : (session : Bytes) → Command
  Get : (session : Bytes) (key : Key) → Command
  Put : (session : Bytes) (key : Key) (value : Bytes) → Command
  Del : (session : Bytes) (key : Key) → Command
  -- all visible pairs of the range
  Scan : (session : Bytes) (low high : Key) → Command
  -- the first of them, at most as many as the limit
  ScanFirst : (session : Bytes) (low high : Key) (limit : ℕ) → Command
  Commit : (session : Bytes) → Command
  Abort : (session : Bytes) → Command
  -- drop the versions that nobody can see any more
  Collect : Command
  -- count transactions, versions and keys
  Stat : Command

-- why a command is refused; a refusal changes nothing
pub data Refusal : Type 0 where
  -- the session has a transaction already
  Busy : Refusal
  -- the session has no transaction
  Idle : Refusal
  -- the range runs downward
  Range : Refusal
  -- the transaction has done as many operations as it may
  Long : Refusal
  -- the last transaction number was given
  Spent : Refusal
  -- memory ran out
  Memory : Refusal

-- a row is a visible pair
pub data Answer : Type 0 where
  Begun : (txn : ℕ) → Answer
  Value : (value : Bytes) → Answer
  Absent : Answer
  -- the write is carried out
  Done : Answer
  Rows : (rows : List FinalPair) → Answer
  Committed : Answer
  Aborted : Answer
  -- aborted: another transaction has committed a write of the key since it began
  Conflict : (key : Key) (writer : ℕ) → Answer
  -- aborted: this pivot would stand
  Unsafe : (pivot : ℕ) → Answer
  Kept : (versions : ℕ) → Answer
  Counts : (open_txns kept versions keys : ℕ) → Answer
  Refused : (refusal : Refusal) → Answer

-- a first transaction number, and then commands with their answers
pub data Course : Type 0 where
  New : (first : ℕ) → Course
  Then : (course : Course) (command : Command) (answer : Answer) → Course

abbrev pub is_of : Bytes → Command → Bool
is_of s (Begin r) = key_eq r s
is_of s (Get r k) = key_eq r s
is_of s (Put r k v) = key_eq r s
is_of s (Del r k) = key_eq r s
is_of s (Scan r low high) = key_eq r s
is_of s (ScanFirst r low high n) = key_eq r s
is_of s (Commit r) = key_eq r s
is_of s (Abort r) = key_eq r s
is_of s _ = false

-- what a session has after an answer, if it had this before
abbrev pub txn_after : Option ℕ → Answer → Option ℕ
txn_after t (Begun n) = Some n
txn_after t Committed = None
txn_after t Aborted = None
txn_after t (Conflict k w) = None
txn_after t (Unsafe p) = None
txn_after t _ = t

abbrev pub txn_in : Bytes → Course → Option ℕ
txn_in s (New first) = None
txn_in s (Then c command answer) = if is_of s command then txn_after (txn_in s c) answer else txn_in s c

abbrev pub txn_for : Command → Course → Option ℕ
txn_for (Begin s) c = txn_in s c
txn_for (Get s k) c = txn_in s c
txn_for (Put s k v) c = txn_in s c
txn_for (Del s k) c = txn_in s c
txn_for (Scan s low high) c = txn_in s c
txn_for (ScanFirst s low high n) c = txn_in s c
txn_for (Commit s) c = txn_in s c
txn_for (Abort s) c = txn_in s c
txn_for _ c = None

-- the number that the next begin gives
abbrev pub next_txn : Course → ℕ
next_txn (New first) = first
next_txn (Then c command (Begun n)) = suc n
next_txn (Then c command answer) = next_txn c
