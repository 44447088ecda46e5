-- What the tables of the check say about the events that they were made of.
use Rattle.std.specs.Prelude.{◌≡◌, ℕ, ◌<◌, ◌==◌, Bool, false, ◌&&◌, ◌||◌, cond, List, length, Option, Some, None, is_some, IsSome, option_and_then, slice_get}
use Rattle.std.specs.List.{filter_map, list_any}
use Rattle.txn_table.specs.declared.TxnTable.{TxnTable}
use Rattle.txn_table.specs.Mirror.{value_for}
use Rattle.adya_values.specs.declared.event.Version.{Version}
use Rattle.adya_terms.specs.declared.tables.Ended.{Ended}
use Rattle.adya_values.specs.Meaning.Histories.{Entry, Event}
use Rattle.adya_values.specs.Meaning.Events.{written, writes_of, last_write, is_committed, aborts}
use Rattle.adya_keys.specs.Meaning.Keys.{key_eq}
use Rattle.adya_values.specs.Computing.Faults.{version_eq, entry_eq}

-- a transaction and a key
pub record Own : Type 0 where
  pub txn : ℕ
  pub key : List ℕ

abbrev pub own : ℕ → List ℕ → Own
own t k = record { txn = t; key = k }

abbrev pub own_eq : Own → Own → Bool
own_eq a b = (a.txn == b.txn) && key_eq a.key b.key

abbrev pub written_by : Option Event → Option Entry
written_by e = option_and_then written e

-- what the event at the place writes
abbrev pub written_at : List Event → Option ℕ → Option Entry
written_at all None = None
written_at all (Some p) = written_by (slice_get all p)

-- it is this entry
abbrev pub is_there : Entry → Option Entry → Bool
is_there o None = false
is_there o (Some w) = entry_eq o w

abbrev pub number_of : Option Entry → ℕ
number_of None = 0
number_of (Some w) = w.version.m

-- the places of versions with that of this write, if there is one
abbrev pub with_replaced : Option Entry → Option ℕ → (Version → Option ℕ) → Version → Option ℕ
with_replaced None place places r = places r
with_replaced (Some w) place places r = cond (version_eq w.version r) place (places r)

-- the entry is at the place of the last write of its key by its transaction, or at that of its version
abbrev pub is_at : (Own → Option ℕ) → (Version → Option ℕ) → List Event → Entry → Bool
is_at last replaced all o =
    is_there o (written_at all (last (own o.version.txn o.version.key))) || is_there o (written_at all (replaced o.version))

-- the functions are right about the events before: which transactions have ended, and the places of last writes and of
-- the versions that these replaced
pub record Tell (committed aborted : ℕ → Bool) (last : Own → Option ℕ) (replaced : Version → Option ℕ) (all before : List Event) : Type 0 where
  pub committed_is : (t : ℕ) → committed t ≡ is_committed before t
  pub aborted_is : (t : ℕ) → aborted t ≡ list_any (aborts t) before
  pub last_is : (t : ℕ) (k : List ℕ) → written_at all (last (own t k)) ≡ last_write t k before
  pub has_is : (t : ℕ) (k : List ℕ) → is_some (last (own t k)) ≡ is_some (last_write t k before)
  pub written_is : (o : Entry) → is_at last replaced all o ≡ list_any (entry_eq o) (filter_map written before)
  pub number_is : (t : ℕ) (k : List ℕ) → number_of (last_write t k before) ≡ length (writes_of t k before)
  pub later : (r : Version) → IsSome (replaced r) → r.m < length (writes_of r.txn r.key before)

-- the table has which transactions have committed
abbrev pub KnowsCommitted : TxnTable Ended → List Event → Type 0
KnowsCommitted ended all = (t : ℕ) → (value_for ended t).committed ≡ is_committed all t
