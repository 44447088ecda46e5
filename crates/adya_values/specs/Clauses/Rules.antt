-- When a history is well-formed: one definition for each rule.
use Rattle.std.specs.Prelude.{◌≡◌, ℕ, suc, ◌==◌, Bool, true, false, cond, ◌&&◌, ◌||◌, if◌then◌else◌, List, [], ◌∷◌, ◌++◌, length, Option, Some, None, is_some, IfSome, count_by, map, All, Contains}
use Rattle.std.specs.List.{filter_map, list_any}
use Rattle.adya_keys.specs.Meaning.Keys.{Key, Bytes, key_eq, key_le, lies_in, keys_rise}
use Rattle.adya_values.specs.Meaning.Histories.{Live, Entry, Event, Read, Scan, FinalPair, History}
use Rattle.adya_values.specs.Meaning.Events.{txn_of, entry, written, observed, writes_of, last_write, is_committed, is_unfinished, aborts}
use Rattle.adya_values.specs.Meaning.Orders.{writers, value_at}

-- the transaction commits or aborts
abbrev pub has_ended : List Event → ℕ → Bool
has_ended events t = is_committed events t || list_any (aborts t) events

-- the rule holds of each event, given the events before it
abbrev pub EachAfter : (List Event → Event → Type 0) → List Event → List Event → Type 0
EachAfter P before [] = Unit {0}
EachAfter P before (e ∷ es) = P before e × EachAfter P (before ++ e ∷ []) es

-- M1: no event comes after the end of its transaction
abbrev pub IsOpen : List Event → Event → Type 0
IsOpen before e = has_ended before (txn_of e) ≡ false

-- M2: the number of a write is one more than its transaction has written of the key before
abbrev pub IsNumbered : List Event → Event → Type 0
IsNumbered before e = IfSome (written e) (λ w. w.version.m ≡ suc (length (writes_of w.version.txn w.version.key before)))

-- M3: each version that is seen exists by then, with the same content
abbrev pub WasWritten : List Event → Event → Type 0
WasWritten before e = All (Contains (filter_map written before)) (observed e)

-- the list has the entry, and no other of its key
abbrev pub ListsOnly : List Entry → Entry → Type 0
ListsOnly es w = Contains es w × All (λ x. key_eq x.version.key w.version.key ≡ true → x ≡ w) es

-- M4: a transaction that has written a key sees only its own latest version of it
abbrev pub SeesOwnWrites : List Event → Event → Type 0
SeesOwnWrites before (Read t r v) = IfSome (last_write t r.key before) (λ w. entry r (Live v) ≡ w)
SeesOwnWrites before (Scan t low high es) = (k : Key) → lies_in low high k ≡ true → IfSome (last_write t k before) (ListsOnly es)
SeesOwnWrites before _ = Unit {0}

-- M5: the bounds of a scan are in order, and its list has rising keys within the bounds
abbrev pub IsRising : Event → Type 0
IsRising (Scan t low high es) =
    (key_le low high ≡ true) × (keys_rise (map (λ w. w.version.key) es) ≡ true) × All (λ w. lies_in low high w.version.key ≡ true) es
IsRising _ = Unit {0}

-- M6: each transaction either ends or is listed as unfinished
pub record AllEnd (h : History) : Type 0 where
  pub ended : All (λ e. (has_ended h.events (txn_of e) || is_unfinished h (txn_of e)) ≡ true) h.events
  pub unended : All (λ t. has_ended h.events t ≡ false) h.unfinished

-- the transaction is a committed writer of the key
abbrev pub installs : List Event → Key → ℕ → Bool
installs events k t = is_committed events t && is_some (last_write t k events)

-- M7: the order line of a key names exactly its committed writers, without repeats
abbrev pub OrdersList : History → Type 0
OrdersList h = (k : Key) (t : ℕ) → count_by (λ u. u == t) (writers h k) ≡ cond (installs h.events k t) 1 0

-- the value that the finals have for the key
abbrev pub final_value : List FinalPair → Key → Option Bytes
final_value [] k = None
final_value (f ∷ fs) k = if key_eq f.key k then Some f.value else final_value fs k

-- M8: the finals have for each key the value of its last version, if that has one
abbrev pub FinalsShow : History → Type 0
FinalsShow h = (k : Key) → final_value h.finals k ≡ value_at h k (length (writers h k))

pub record IsWellFormed (h : History) : Type 0 where
  pub open_until_end : EachAfter IsOpen [] h.events
  pub numbered : EachAfter IsNumbered [] h.events
  pub was_written : EachAfter WasWritten [] h.events
  pub own_writes : EachAfter SeesOwnWrites [] h.events
  pub rising : EachAfter (λ before e. IsRising e) [] h.events
  pub ends : AllEnd h
  pub orders : OrdersList h
  pub finals : FinalsShow h
