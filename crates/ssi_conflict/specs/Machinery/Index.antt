-- The index of written keys, and what a read meets in it. A write stands under the stamp before that of its commit: the
-- greatest snapshot that does not see it.
use Rattle.std.specs.Prelude.{◌≡◌, ℕ, suc, ◌<◌, ◌≤◌, ◌⊎◌, Bool, false, ◌&&◌, if◌then◌else◌, nat_lt, nat_le, List, [], ◌∷◌, Option, Some, None, option_map, Contains}
use Rattle.std.specs.List.{list_any}
use Rattle.std.specs.Ordering.{nat_cmp, is_eq, ordering_then}
use Rattle.std.specs.declared.cmp.Ordering.{Ordering}
use Rattle.std.specs.Cmp.Lexicographic.{slice_cmp}
use Rattle.std.specs.BTreeMap.{get}
use Rattle.adya_keys.specs.Meaning.Keys.{lies_in}
use Rattle.ssi_conflict.specs.Computing.Steps.{is_earlier}
use Rattle.ssi_conflict.specs.Machinery.Rows.{Row, sooner}
use Rattle.ssi_conflict.specs.declared.reading.Reading.{Reading}
use Rattle.ssi_conflict.specs.declared.writes.Write.{Write}
use Rattle.ssi_conflict.specs.declared.writes.Writes.{Writes}

abbrev pub write_cmp : Write → Write → Ordering
write_cmp a b = ordering_then (slice_cmp nat_cmp a.key b.key) (nat_cmp a.before b.before)

abbrev pub writer_in : Writes → List ℕ → ℕ → Option ℕ
writer_in m k a = get write_cmp m.writers (record { key = k; before = a })

abbrev pub has_key : List (List ℕ) → List ℕ → Bool
has_key ks k = list_any (λ j. is_eq (slice_cmp nat_cmp j k)) ks

-- the key is one of these, and n stands before it
abbrev pub is_one_of : List (List ℕ) → ℕ → List ℕ → ℕ → Bool
is_one_of ks n k a = has_key ks k && is_eq (nat_cmp n a)

-- the stamp and the written keys of a committed transaction
abbrev pub commit_in : Option Row → Option (ℕ × List (List ℕ))
commit_in None = None
commit_in (Some u) = option_map (λ n. (n, u.keys)) u.stamp

-- t committed with the stamp n, and wrote the key
pub record Wrote (commit : ℕ → Option (ℕ × List (List ℕ))) (t n : ℕ) (k : List ℕ) : Type 0 where
  pub keys : List (List ℕ)
  pub is : commit t ≡ Some (n, keys)
  pub written : Contains keys k

-- a stamp from 1 to the last
pub record IsStamp (n last : ℕ) : Type 0 where
  pub before : ℕ
  pub next : n ≡ suc before
  pub below : before < last

-- the index has all writes of these commits, with stamps up to the last; and besides only the judged keys, under the
-- next stamp
pub record IsIndexed (commit : ℕ → Option (ℕ × List (List ℕ))) (writer : List ℕ → ℕ → Option ℕ) (last : ℕ)
    (judged : List (List ℕ)) : Type 0 where
  pub found : (t a : ℕ) (k : List ℕ) → Wrote commit t (suc a) k → writer k a ≡ Some t
  pub only : (t a : ℕ) (k : List ℕ) → writer k a ≡ Some t → Wrote commit t (suc a) k ⊎ ((a ≡ last) × Contains judged k)
  pub past : (t n : ℕ) (ks : List (List ℕ)) → commit t ≡ Some (n, ks) → IsStamp n last

abbrev pub row_passes : (Row → Bool) → Option Row → Bool
row_passes p None = false
row_passes p (Some v) = p v

abbrev pub stamp_in : Option Row → Option ℕ
stamp_in None = None
stamp_in (Some u) = u.stamp

-- the key is read, and its commit came after the snapshot, and not after the last one
abbrev pub is_met : Reading → ℕ → Write → Bool
is_met r last w = nat_le r.snapshot w.before && (nat_lt w.before last && lies_in r.low r.high w.key)

-- the writer, if the read meets the write and would make the writer a pivot
abbrev pub pivot_at : (ℕ → Option Row) → Reading → ℕ → Write × ℕ → Option ℕ
pivot_at row r last e =
    if is_met r last e.0 && row_passes (λ u. is_earlier u.first_out u.stamp) (row e.1) then Some e.1 else None

-- the stamp of the writer, if the read meets the write
abbrev pub stamp_at : (ℕ → Option Row) → Reading → ℕ → Write × ℕ → Option ℕ
stamp_at row r last e = if is_met r last e.0 then stamp_in (row e.1) else None

-- the least of the first number and those that f gives
abbrev pub lowest : {A : Type 0} → (A → Option ℕ) → Option ℕ → List A → Option ℕ
lowest f least [] = least
lowest f least (x ∷ xs) = lowest f (sooner least (f x)) xs

-- f gives this number of a write, and no lower one of any
pub record Lowest (writer : List ℕ → ℕ → Option ℕ) (f : Write × ℕ → Option ℕ) (m : ℕ) : Type 0 where
  pub write : Write
  pub txn : ℕ
  pub is_write : writer write.key write.before ≡ Some txn
  pub gives : f (write, txn) ≡ Some m
  pub least : (w : Write) (t n : ℕ) → writer w.key w.before ≡ Some t → f (w, t) ≡ Some n → m ≤ n

-- the least number that f gives of a write, or nothing if it gives none
abbrev pub IsLowest : (List ℕ → ℕ → Option ℕ) → (Write × ℕ → Option ℕ) → Option ℕ → Type 0
IsLowest writer f None = (w : Write) (t : ℕ) → writer w.key w.before ≡ Some t → f (w, t) ≡ None
IsLowest writer f (Some m) = Lowest writer f m
