-- Pairs and pivots (Cahill, Röhm and Fekete 2008), looking back over all calls of a tracker.
use Rattle.std.specs.Prelude.{◌≡◌, ℕ, ◌==◌, ◌<◌, ◌≤◌, true, false, List, Option, Some, None, Contains, if◌then◌else◌, [], ◌∷◌}
use Rattle.adya_keys.specs.Meaning.Keys.{Key}
use Rattle.ssi_conflict.specs.Meaning.Calls.{Call, stamp_of, keys_of, is_committed, is_aborted, meets, Commits, are_concurrent}

-- what was before the transaction committed
abbrev pub before_commit : ℕ → List Call → List Call
before_commit t [] = []
before_commit t (Commits u n ks ∷ calls) = if u == t then calls else before_commit t calls
before_commit t (_ ∷ calls) = before_commit t calls

-- r and the committed u are concurrent, and r read a key that u wrote, so r may have to come before u in a serial
-- order; a transaction that was aborted before u committed is in no pair with u
pub record IsPair (r u : ℕ) (calls : List Call) : Type 0 where
  pub key : Key
  pub committed : is_committed u calls ≡ true
  pub concurrent : are_concurrent r u calls ≡ true
  pub met : meets r key calls ≡ true
  pub written : Contains (keys_of u calls) key
  pub unaborted : is_aborted r (before_commit u calls) ≡ false

-- a committed transaction with a pair into it and a pair out of it; both may be with the same transaction
pub record IsPivot (t : ℕ) (calls : List Call) : Type 0 where
  pub committed : is_committed t calls ≡ true
  pub from : ℕ
  pub into : IsPair from t calls
  pub to : ℕ
  pub out : IsPair t to calls

-- the number is at most this stamp; a transaction without a stamp counts as later than all
abbrev pub IsAtMost : ℕ → Option ℕ → Type 0
IsAtMost b (Some a) = b ≤ a
IsAtMost b None = Unit {0}

-- a pivot of the commit-order rule: the last of the three, in the order of the pairs, committed before the middle one
-- and not after the first
pub record IsOrderedPivot (t : ℕ) (calls : List Call) : Type 0 where
  pub middle : ℕ
  pub committed : stamp_of t calls ≡ Some middle
  pub from : ℕ
  pub into : IsPair from t calls
  pub to : ℕ
  pub out : IsPair t to calls
  pub last : ℕ
  pub to_committed : stamp_of to calls ≡ Some last
  pub before_middle : last < middle
  pub not_after_first : IsAtMost last (stamp_of from calls)

-- the smallest number for which it holds, or nothing if it holds for none
abbrev pub IsSmallest : (ℕ → List Call → Type 0) → List Call → Option ℕ → Type 0
IsSmallest Holds calls None = (t : ℕ) → Holds t calls → ⊥
IsSmallest Holds calls (Some p) = Holds p calls × ((t : ℕ) → Holds t calls → p ≤ t)
