-- What a tracker keeps of a transaction, and when what it keeps stands for a list of calls.
use Rattle.std.specs.Prelude.{◌≡◌, ℕ, ◌==◌, ◌≤◌, Bool, true, false, not, ◌&&◌, if◌then◌else◌, nat_lt, List, [], Option, Some, None, is_some}
use Rattle.std.specs.List.{list_any}
use Rattle.adya_keys.specs.Meaning.Keys.{lies_in}
use Rattle.ssi_conflict.specs.Meaning.Calls.{Call, snapshot_of, stamp_of, keys_of, is_aborted, meets, is_at_or_below}
use Rattle.ssi_conflict.specs.Clauses.Allowed.{AreAllowed}
use Rattle.ssi_conflict.specs.Clauses.Pairs.{IsPair, IsOrderedPivot}
use Rattle.ssi_conflict.specs.Computing.Steps.{is_earlier, is_no_later}
use Rattle.ssi_conflict.specs.Meaning.Kept.{is_kept}

-- the snapshot; the stamp and the written keys of a committed one; and the least stamp of those to which pairs lead
pub record Row : Type 0 where
  pub snapshot : ℕ
  pub stamp : Option ℕ
  pub keys : List (List ℕ)
  pub first_out : Option ℕ

-- some transaction passes and has this stamp, and none that passes has a lower one
pub record Least (passes : ℕ → Type 0) (calls : List Call) (b : ℕ) : Type 0 where
  pub who : ℕ
  pub is_one : passes who
  pub stamped : stamp_of who calls ≡ Some b
  pub least : (u m : ℕ) → passes u → stamp_of u calls ≡ Some m → b ≤ m

-- the least stamp of those that pass, if any does
abbrev pub IsLeast : (ℕ → Type 0) → List Call → Option ℕ → Type 0
IsLeast passes calls None = (u : ℕ) → passes u → ⊥
IsLeast passes calls (Some b) = Least passes calls b

-- the row is what the calls say of the transaction
pub record Tells (calls : List Call) (t : ℕ) (u : Row) : Type 0 where
  pub is_begun : snapshot_of t calls ≡ Some u.snapshot
  pub stamped : stamp_of t calls ≡ u.stamp
  pub unaborted : is_aborted t calls ≡ false
  pub wrote : keys_of t calls ≡ u.keys
  pub leads_to : IsLeast (λ x. IsPair t x calls) calls u.first_out

-- the calls have no pivot; each kept transaction has its row, each row is right, and the marks are the reads of those
-- that have a row
pub record StandsFor (row : ℕ → Option Row) (marked : ℕ → List ℕ → Bool) (calls : List Call) : Type 0 where
  pub allowed : AreAllowed calls
  pub no_pivot : (t : ℕ) → IsOrderedPivot t calls → ⊥
  pub tells : (t : ℕ) (u : Row) → row t ≡ Some u → Tells calls t u
  pub keeps : (t : ℕ) → is_kept t calls ≡ true → is_some (row t) ≡ true
  pub marks : (t : ℕ) (k : List ℕ) → marked t k ≡ (is_some (row t) && meets t k calls)

-- the earlier of two stamps
abbrev pub sooner : Option ℕ → Option ℕ → Option ℕ
sooner None m = m
sooner (Some n) None = Some n
sooner (Some n) (Some m) = if nat_lt m n then Some m else Some n

-- the row of a transaction that has just begun
abbrev pub new_row : ℕ → Row
new_row s = record { snapshot = s; stamp = None; keys = []; first_out = None }

-- a read of these keys by an open transaction with snapshot s meets a write of the row's transaction
abbrev pub read_conflict : ℕ → List ℕ → List ℕ → Row → Bool
read_conflict s low high u =
    is_some u.stamp && (not (is_at_or_below u.stamp (Some s)) && list_any (lies_in low high) u.keys)

-- and would make it a pivot
abbrev pub read_pivot : ℕ → List ℕ → List ℕ → Row → Bool
read_pivot s low high u = read_conflict s low high u && is_earlier u.first_out u.stamp

-- a commit of t with snapshot s meets a read of r, where these are the readers of its keys
abbrev pub commit_conflict : ℕ → ℕ → (ℕ → Bool) → ℕ → Row → Bool
commit_conflict t s readers r u = not (r == t) && (not (is_at_or_below u.stamp (Some s)) && readers r)

-- and makes t a pivot, where b is the least stamp to which pairs lead from t
abbrev pub commit_pivot : ℕ → ℕ → (ℕ → Bool) → Option ℕ → ℕ → Row → Bool
commit_pivot t s readers b r u = commit_conflict t s readers r u && is_no_later b u.stamp

-- a pair to a transaction with stamp n, which is above all
abbrev pub with_later : ℕ → Row → Row
with_later n u = record u { first_out = sooner u.first_out (Some n) }

-- the row with earlier pairs
abbrev pub with_sooner : Option ℕ → Row → Row
with_sooner m u = record u { first_out = sooner u.first_out m }

abbrev pub closed : ℕ → List (List ℕ) → Row → Row
closed n ks u = record u { stamp = Some n; keys = ks }

-- no row passes, or the smallest number of one that does
pub record Smallest (row : ℕ → Option Row) (test : Row → Bool) (p : ℕ) : Type 0 where
  pub one : Row
  pub is_row : row p ≡ Some one
  pub passes : test one ≡ true
  pub smallest : (t : ℕ) (u : Row) → row t ≡ Some u → test u ≡ true → p ≤ t

abbrev pub IsSmallestRow : (ℕ → Option Row) → (Row → Bool) → Option ℕ → Type 0
IsSmallestRow row test None = (t : ℕ) (u : Row) → row t ≡ Some u → test u ≡ false
IsSmallestRow row test (Some p) = Smallest row test p

-- no row passes, or the least stamp of one that does
pub record LeastStamp (row : ℕ → Option Row) (test : Row → Bool) (b : ℕ) : Type 0 where
  pub who : ℕ
  pub one : Row
  pub is_row : row who ≡ Some one
  pub passes : test one ≡ true
  pub stamped : one.stamp ≡ Some b
  pub least : (t m : ℕ) (u : Row) → row t ≡ Some u → test u ≡ true → u.stamp ≡ Some m → b ≤ m

abbrev pub IsLeastStamp : (ℕ → Option Row) → (Row → Bool) → Option ℕ → Type 0
IsLeastStamp row test None = (t : ℕ) (u : Row) → row t ≡ Some u → test u ≡ false
IsLeastStamp row test (Some b) = LeastStamp row test b
