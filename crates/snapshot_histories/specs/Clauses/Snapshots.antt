-- Snapshot histories and dangerous structures (Cahill, Röhm and Fekete 2008). Time is counted in
-- commits: a transaction's stamp is the place of its commit among the commits, and its snapshot is the stamp of the last
-- commit before it began. A history doesn't record when a transaction began, so `snapshot_of` gives its snapshot.
use Rattle.std.specs.Prelude.{◌≡◌, ◌≢◌, ℕ, zero, suc, ◌<◌, ◌≤◌, true, Some, Contains}
use Rattle.std.specs.List.{filter_map}
use Rattle.adya_keys.specs.Meaning.Keys.{Key}
use Rattle.adya_values.specs.Meaning.Histories.{Event, History}
use Rattle.adya_values.specs.Meaning.Events.{txn_of, is_committed, commit_of}
use Rattle.adya_values.specs.Meaning.Orders.{place, installer}
use Rattle.adya_values.specs.Meaning.Selections.{selected}
use Rattle.adya_values.specs.Meaning.Edges.{Rw, Edge, IsEdge}
use Rattle.adya_values.specs.Clauses.Acceptance.{IsChecked}

-- the place of the transaction's commit among the commits, from 1; of a transaction that doesn't commit, above all others
abbrev pub stamp_in : History → ℕ → ℕ
stamp_in h t = suc (place (filter_map commit_of h.events) t)

-- two different transactions, neither of which committed before the other began
pub record AreConcurrent (h : History) (snapshot_of : ℕ → ℕ) (t u : ℕ) : Type 0 where
  pub differ : t ≢ u
  pub ends_after : snapshot_of u < stamp_in h t
  pub begins_before : snapshot_of t < stamp_in h u

-- of the versions of the key with a stamp at or below the limit, that at the place has the greatest
pub record IsGreatestWithin (h : History) (k : Key) (limit p : ℕ) : Type 0 where
  pub who : ℕ
  pub installs : installer h k p ≡ Some who
  pub within : stamp_in h who ≤ limit
  pub greatest : (q u : ℕ) → installer h k q ≡ Some u → stamp_in h u ≤ limit → stamp_in h u ≤ stamp_in h who

-- the version at the place is the newest that the snapshot sees; the unborn one if it sees none
abbrev pub IsNewestWithin : History → Key → ℕ → ℕ → Type 0
IsNewestWithin h k limit zero = (q u : ℕ) → installer h k q ≡ Some u → limit < stamp_in h u
IsNewestWithin h k limit (suc p) = IsGreatestWithin h k limit (suc p)

pub record IsSnapshotHistory (h : History) (snapshot_of : ℕ → ℕ) : Type 0 where
  -- a committed transaction began before it committed
  pub begins_first : (t : ℕ) → is_committed h.events t ≡ true → snapshot_of t < stamp_in h t
  -- if an event reads or selects a version that its transaction hasn't written, that is the newest one that its snapshot
  -- sees
  pub sees_snapshot : (e : Event) (k : Key) (p : ℕ) → Contains h.events e → selected h e k ≡ Some p
      → IsNewestWithin h k (snapshot_of (txn_of e)) p
  -- no two committed writers of a key are concurrent
  pub first_wins : (k : Key) (p q t u : ℕ) → installer h k p ≡ Some t → installer h k q ≡ Some u
      → AreConcurrent h snapshot_of t u → ⊥
  -- the versions of a key are in the order of their stamps
  pub by_stamp : (k : Key) (p q t u : ℕ) → installer h k p ≡ Some t → installer h k q ≡ Some u → p < q
      → stamp_in h t < stamp_in h u

-- two consecutive anti-dependencies, each between concurrent transactions. The last of the three transactions committed
-- before the middle one, and not after the first; the first and the last may be one (Ports and Grittner 2012)
pub record IsDangerous (h : History) (snapshot_of : ℕ → ℕ) (into out : Edge) : Type 0 where
  pub into_edge : IsEdge h into
  pub out_edge : IsEdge h out
  pub into_rw : into.kind ≡ Rw
  pub out_rw : out.kind ≡ Rw
  pub joined : into.to ≡ out.from
  pub into_concurrent : AreConcurrent h snapshot_of into.from into.to
  pub out_concurrent : AreConcurrent h snapshot_of out.from out.to
  pub before_middle : stamp_in h out.to < stamp_in h out.from
  pub not_after_first : stamp_in h out.to ≤ stamp_in h into.from

-- a checked snapshot history without a dangerous structure
pub record IsSafe (h : History) (snapshot_of : ℕ → ℕ) : Type 0 where
  pub checked : IsChecked h
  pub snapshots : IsSnapshotHistory h snapshot_of
  pub no_danger : (into out : Edge) → IsDangerous h snapshot_of into out → ⊥

-- with some snapshots of its transactions, the history is a checked snapshot history without a dangerous structure
abbrev pub IsSafeHistory : History → Type 0
IsSafeHistory h = (snapshot_of : ℕ → ℕ) × IsSafe h snapshot_of
