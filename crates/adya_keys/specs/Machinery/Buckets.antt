-- Keys chained by the buckets of a table.
use Rattle.std.specs.Prelude.{◌≡◌, ℕ, zero, suc, ◌<◌, ◌≤◌, ◌==◌, false, true, cond, List, length, slice_index}
use Rattle.std.specs.List.{list_all, IsDistinct}
use Rattle.adya_keys.specs.Meaning.Keys.{Key, is_key, key_eq}
use Rattle.adya_keys.specs.Machinery.Within.{key_at}
use Rattle.adya_keys.specs.Machinery.KeyHash.{bucket_of}

-- the last of the first n keys that is in the bucket, counted from 1, if this says where each key is; 0 if none is
abbrev pub last_in : (ℕ → ℕ) → ℕ → ℕ → ℕ
last_in place b zero = zero
last_in place b (suc n) = cond (place n == b) (suc n) (last_in place b n)

-- where the key with a number is, among so many buckets
abbrev pub place_in : List Key → ℕ → ℕ → ℕ
place_in ks buckets j = bucket_of buckets (key_at ks j)

-- each bucket has the last of the first n keys that is in it, and each of these keys the last before it in its bucket
pub record AreChained (ks : List Key) (heads next : List ℕ) (n : ℕ) : Type 0 where
  pub last : (b : ℕ) → b < length heads → slice_index heads b ≡ last_in (place_in ks (length heads)) b n
  pub before : (j : ℕ) → j < n → slice_index next j ≡ last_in (place_in ks (length heads)) (place_in ks (length heads) j) j

-- the keys from this number on are others
abbrev pub AreOthers : List Key → Key → ℕ → Type 0
AreOthers ks k from = (j : ℕ) → from ≤ j → j < length ks → key_eq k (key_at ks j) ≡ false

-- a table of these keys, each once, with their chains
pub record IsTable (ks : List Key) (heads next : List ℕ) : Type 0 where
  pub keys : list_all is_key ks ≡ true
  pub few : length ks < 4294967296
  pub unique : IsDistinct key_eq ks
  pub count : length next ≡ length ks
  pub buckets : length heads < 4294967296
  pub some : 0 < length ks → 0 < length heads
  pub chained : AreChained ks heads next (length ks)
