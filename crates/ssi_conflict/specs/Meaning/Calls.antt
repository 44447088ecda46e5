-- The calls of a conflict tracker, and what they say of each transaction. The newest call stands first, so that the
-- tail of a list is what was before.
use Rattle.std.specs.Prelude.{ℕ, ◌==◌, Bool, false, not, ◌&&◌, ◌||◌, if◌then◌else◌, List, [], ◌∷◌, ◌++◌, Option, Some, None, is_some, nat_le}
use Rattle.adya_keys.specs.Meaning.Keys.{Key, lies_in}
use Rattle.adya_values.specs.Meaning.Histories.{Txns}

pub data Call : Type 0 where
  Begins : (txn snapshot : ℕ) → Call
  Reads : (txn : ℕ) (low high : Key) → Call
  Commits : (txn stamp : ℕ) (keys : List Key) → Call
  Aborts : (txn : ℕ) → Call

abbrev pub snapshot_of : ℕ → List Call → Option ℕ
snapshot_of t [] = None
snapshot_of t (Begins u s ∷ calls) = if u == t then Some s else snapshot_of t calls
snapshot_of t (_ ∷ calls) = snapshot_of t calls

abbrev pub stamp_of : ℕ → List Call → Option ℕ
stamp_of t [] = None
stamp_of t (Commits u n ks ∷ calls) = if u == t then Some n else stamp_of t calls
stamp_of t (_ ∷ calls) = stamp_of t calls

abbrev pub keys_of : ℕ → List Call → List Key
keys_of t [] = []
keys_of t (Commits u n ks ∷ calls) = if u == t then ks else keys_of t calls
keys_of t (_ ∷ calls) = keys_of t calls

abbrev pub has_begun : ℕ → List Call → Bool
has_begun t calls = is_some (snapshot_of t calls)

abbrev pub is_committed : ℕ → List Call → Bool
is_committed t calls = is_some (stamp_of t calls)

abbrev pub is_aborted : ℕ → List Call → Bool
is_aborted t [] = false
is_aborted t (Aborts u ∷ calls) = (u == t) || is_aborted t calls
is_aborted t (_ ∷ calls) = is_aborted t calls

abbrev pub is_open : ℕ → List Call → Bool
is_open t calls = has_begun t calls && not (is_committed t calls || is_aborted t calls)

abbrev pub meets : ℕ → Key → List Call → Bool
meets t k [] = false
meets t k (Reads u low high ∷ calls) = ((u == t) && lies_in low high k) || meets t k calls
meets t k (_ ∷ calls) = meets t k calls

-- in the order in which they began
abbrev pub begun : List Call → Txns
begun [] = []
begun (Begins t s ∷ calls) = begun calls ++ t ∷ []
begun (_ ∷ calls) = begun calls

abbrev pub is_at_or_below : Option ℕ → Option ℕ → Bool
is_at_or_below (Some n) (Some s) = nat_le n s
is_at_or_below _ _ = false

-- t committed before u began: u's snapshot covers t's stamp
abbrev pub precedes : ℕ → ℕ → List Call → Bool
precedes t u calls = is_at_or_below (stamp_of t calls) (snapshot_of u calls)

-- two different transactions, neither of which committed before the other began
abbrev pub are_concurrent : ℕ → ℕ → List Call → Bool
are_concurrent t u calls = not (t == u) && (not (precedes t u calls) && not (precedes u t calls))
