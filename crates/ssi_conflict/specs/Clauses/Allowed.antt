-- What may be called after other calls of a conflict tracker.
use Rattle.std.specs.Prelude.{◌≡◌, ℕ, suc, ◌<◌, true, false, List, [], ◌∷◌}
use Rattle.std.specs.List.{AllPairs}
use Rattle.adya_keys.specs.Meaning.Keys.{Key, key_eq, key_le}
use Rattle.ssi_conflict.specs.Meaning.Calls.{Aborts, Begins, Call, Commits, Reads, has_begun, is_open}

-- the greatest stamp so far
abbrev pub last_stamp : List Call → ℕ
last_stamp [] = 0
last_stamp (Commits t n ks ∷ calls) = n
last_stamp (_ ∷ calls) = last_stamp calls

-- an open transaction may commit with the next stamp and distinct keys
pub record MayCommit (t n : ℕ) (ks : List Key) (calls : List Call) : Type 0 where
  pub opened : is_open t calls ≡ true
  pub next : n ≡ suc (last_stamp calls)
  pub apart : AllPairs (λ j k. key_eq j k ≡ false) ks

-- a transaction may begin with a number above all earlier ones and the greatest stamp so far as its snapshot
pub record MayBegin (t s : ℕ) (calls : List Call) : Type 0 where
  pub above : (u : ℕ) → has_begun u calls ≡ true → u < t
  pub current : s ≡ last_stamp calls

-- an open transaction may read a range that does not run downward
pub record MayRead (t : ℕ) (low high : Key) (calls : List Call) : Type 0 where
  pub opened : is_open t calls ≡ true
  pub upward : key_le low high ≡ true

-- what a caller has to keep: numbers rise, snapshots and stamps count the commits, and only open transactions read,
-- commit and abort
abbrev pub IsAllowed : Call → List Call → Type 0
IsAllowed (Begins t s) calls = MayBegin t s calls
IsAllowed (Reads t low high) calls = MayRead t low high calls
IsAllowed (Commits t n ks) calls = MayCommit t n ks calls
IsAllowed (Aborts t) calls = is_open t calls ≡ true

-- each call was allowed after those before it
abbrev pub AreAllowed : List Call → Type 0
AreAllowed [] = Unit {0}
AreAllowed (c ∷ calls) = IsAllowed c calls × AreAllowed calls
