-- The rows of a table, and its order.
use Rattle.std.specs.Prelude.{is_some, ◌<◌, ◌≤◌, nat_lt, ◌≡◌, ℕ, ◌==◌, Bool, true, false, not, ◌&&◌, if◌then◌else◌, List, [], ◌∷◌, Option, Some, None, Contains}
use Rattle.std.specs.List.{list_any}
use Rattle.std.specs.BTreeSet.{contains}
use Rattle.std.specs.VecDeque.{deque_len, deque_capacity}
use Rattle.std.specs.Ordering.{nat_cmp}
use Rattle.ssi_reads.specs.Clauses.Marks.{has_txn}
use Rattle.ssi_conflict.specs.Meaning.Calls.{is_at_or_below}
use Rattle.ssi_conflict.specs.Computing.Steps.{is_no_later}
use Rattle.ssi_conflict.specs.Machinery.Rows.{Row, with_later}
use Rattle.ssi_conflict.specs.Machinery.Records.{row_in}
use Rattle.ssi_conflict.specs.Machinery.Index.{writer_in, commit_in, stamp_in, row_passes, IsIndexed}
use Rattle.ssi_conflict.specs.declared.table.Table.{Table}

abbrev pub row_at : Table → ℕ → Option Row
row_at m t = row_in m.records t

-- r is another than t, and didn't commit before a snapshot s
abbrev pub is_apart : ℕ → ℕ → ℕ → Row → Bool
is_apart t s r v = not (r == t) && not (is_at_or_below v.stamp (Some s))

-- the row of a reader of what t writes
abbrev pub met : ℕ → ℕ → ℕ → ℕ → Row → Row
met t s n r v = if is_apart t s r v then with_later n v else v

-- the row of r, if these are the readers
abbrev pub met_if : ℕ → ℕ → ℕ → List ℕ → ℕ → Row → Row
met_if t s n readers r v = if has_txn readers r then met t s n r v else v

-- with r as a reader t would be a pivot, if b is the least stamp to which pairs lead from t
abbrev pub pivots : (ℕ → Option Row) → ℕ → ℕ → Option ℕ → ℕ → Bool
pivots row t s b r = row_passes (λ v. is_apart t s r v && is_no_later b v.stamp) (row r)

-- with one of the readers t would be a pivot
abbrev pub any_pivots : (ℕ → Option Row) → ℕ → List ℕ → Bool
any_pivots row t readers = row_passes (λ u. list_any (pivots row t u.snapshot u.first_out) readers) (row t)

abbrev pub is_open_row : Option Row → Bool
is_open_row None = false
is_open_row (Some u) = not (is_some u.stamp)

-- t has a stamp, which is below those of the others
pub record IsFirst (row : ℕ → Option Row) (t : ℕ) (ts : List ℕ) : Type 0 where
  pub stamp : ℕ
  pub stamped : stamp_in (row t) ≡ Some stamp
  pub below : (x m : ℕ) → Contains ts x → stamp_in (row x) ≡ Some m → stamp < m

-- each has a stamp, and these rise
abbrev pub AreRising : (ℕ → Option Row) → List ℕ → Type 0
AreRising row [] = Unit {0}
AreRising row (t ∷ ts) = IsFirst row t ts × AreRising row ts

-- the open ones are in a set, the committed ones are listed by their stamps, and their writes are in the index
pub record Tidy (row : ℕ → Option Row) (opened : ℕ → Bool) (closed : List ℕ) (writer : List ℕ → ℕ → Option ℕ)
    (last : ℕ) (judged : List (List ℕ)) : Type 0 where
  pub opens : (t : ℕ) → opened t ≡ is_open_row (row t)
  pub listed : (t n : ℕ) → stamp_in (row t) ≡ Some n → Contains closed t
  pub rising : AreRising row closed
  pub indexed : IsIndexed (λ t. commit_in (row t)) writer last judged

abbrev pub IsTidy : Table → Type 0
IsTidy m = Tidy (row_at m) (contains nat_cmp m.open) m.closed.items (writer_in m.writes) m.last m.judged.items

-- one more commit can be listed without memory
abbrev pub HasRoom : Table → Type 0
HasRoom m = deque_len m.closed < deque_capacity m.closed

-- a commit of t with these keys takes no memory
pub record IsPrepared (m : Table) (t : ℕ) (ks : List (List ℕ)) : Type 0 where
  pub room : HasRoom m
  pub keys : m.judged.items ≡ ks
  pub filed : (k : List ℕ) → Contains ks k → writer_in m.writes k m.last ≡ Some t

-- an open transaction with the smallest number, and its snapshot
pub record OldestRow (row : ℕ → Option Row) (s : ℕ) : Type 0 where
  pub who : ℕ
  pub one : Row
  pub is_row : row who ≡ Some one
  pub unstamped : one.stamp ≡ None
  pub seen : one.snapshot ≡ s
  pub first : (x : ℕ) → is_open_row (row x) ≡ true → who ≤ x

abbrev pub IsOldestRow : (ℕ → Option Row) → Option ℕ → Type 0
IsOldestRow row None = (t : ℕ) → is_open_row (row t) ≡ false
IsOldestRow row (Some s) = OldestRow row s

-- the stamp is above the snapshot
abbrev pub is_after : Option ℕ → Option ℕ → Bool
is_after None s = false
is_after (Some n) None = false
is_after (Some n) (Some s) = nat_lt s n

-- t committed, and not after the snapshot
pub record IsPast (row : ℕ → Option Row) (oldest : Option ℕ) (t : ℕ) : Type 0 where
  pub stamp : ℕ
  pub stamped : stamp_in (row t) ≡ Some stamp
  pub past : is_after (Some stamp) oldest ≡ false
