-- The chains of transactions' writes.
use Rattle.std.specs.Prelude.{◌≡◌, ◌<◌, ◌≤◌, ℕ, zero, suc, ◌==◌, Bool, true, ◌&&◌, List, length, Option, Some, None, is_some, IsSome, slice_get, if◌then◌else◌}
use Rattle.std.specs.Ordering.{nat_cmp}
use Rattle.std.specs.Cmp.Lexicographic.{slice_cmp}
use Rattle.std.specs.BTreeMap.{BTreeMap, get}
use Rattle.adya_keys.specs.Mirror.{number_in}
use Rattle.adya_terms.specs.declared.own_writes.Chain.{Chain}
use Rattle.adya_terms.specs.declared.own_writes.Row.{Row}
use Rattle.adya_terms.specs.Machinery.Tables.{Own}

-- the row with this number, counted from 1
abbrev pub row_at : List Row → ℕ → Option Row
row_at rows zero = None
row_at rows (suc i) = slice_get rows i

-- the place in the row if its key has the number, else what comes of the row before it
abbrev pub look : ℕ → Option Row → (ℕ → Option ℕ) → Option ℕ
look k None before = None
look k (Some r) before = if r.key == k then Some r.at else before r.before

-- the place of the last write of the key with the number in a chain of this length whose last row has this number
abbrev pub walk : List Row → ℕ → ℕ → ℕ → Option ℕ
walk rows k zero link = None
walk rows k (suc n) link = look k (row_at rows link) (walk rows k n)

abbrev pub row : ℕ → ℕ → ℕ → Row
row at before key = record { at = at; before = before; key = key }

-- the chain with one row more, which comes after these rows
abbrev pub longer : Chain → List Row → Chain
longer chain rows = record { len = suc chain.len; last = suc (length rows) }

-- chains and rows name rows that are there, and rows name keys below the number
pub record AreLinked (keys : ℕ) (chains : ℕ → Chain) (rows : List Row) : Type 0 where
  pub chains_in : (t : ℕ) → (chains t).last ≤ length rows
  pub rows_in : (i : ℕ) (r : Row) → slice_get rows i ≡ Some r → (r.before ≤ length rows) × (r.key < keys)

abbrev pub place_in : Option (BTreeMap (List ℕ) ℕ) → List ℕ → Option ℕ
place_in None k = None
place_in (Some m) k = get (slice_cmp nat_cmp) m k

-- the place under the transaction and the key
abbrev pub own_place : BTreeMap ℕ (BTreeMap (List ℕ) ℕ) → ℕ → List ℕ → Option ℕ
own_place places t k = place_in (get nat_cmp places t) k

abbrev pub row_passes : (ℕ → Bool) → Option Row → (ℕ → Bool) → Bool
row_passes test None before = true
row_passes test (Some r) before = test r.key && before r.before

-- the test holds of the number of the key of each write in a chain of this length whose last row has this number
abbrev pub chain_passes : List Row → (ℕ → Bool) → ℕ → ℕ → Bool
chain_passes rows test zero link = true
chain_passes rows test (suc n) link = row_passes test (row_at rows link) (chain_passes rows test n)

-- a transaction whose chain is shorter than the room for one has no later writes
abbrev pub AreFew : ℕ → (ℕ → Chain) → (Own → Option ℕ) → Type 0
AreFew room chains later = (q : Own) → (chains q.txn).len < room → later q ≡ None

-- the keys of later writes are among these
abbrev pub AreKnown : List (List ℕ) → (Own → Option ℕ) → Type 0
AreKnown ks later = (q : Own) → IsSome (later q) → is_some (number_in ks q.key) ≡ true
