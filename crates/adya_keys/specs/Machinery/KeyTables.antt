-- The keys of a table, and room for more.
use Rattle.std.specs.Prelude.{ℕ, ◌+◌, ◌*◌, ◌≤◌, List, length, vec_len, vec_capacity}
use Rattle.adya_keys.specs.Meaning.Keys.{Key}
use Rattle.adya_keys.specs.Machinery.Parts.{parts_of, HasRoom}
use Rattle.adya_keys.specs.declared.key_table.KeyTable.{KeyTable}

-- the keys, by their numbers
abbrev pub keys_in : KeyTable → List Key
keys_in t = parts_of t.texts

-- how many buckets there are
abbrev pub buckets_in : KeyTable → ℕ
buckets_in t = length t.heads.items

-- so many more keys fit, and no more buckets are needed for them
pub record CanTake (t : KeyTable) (n : ℕ) : Type 0 where
  pub buckets : length (keys_in t) + n ≤ buckets_in t
  pub next : vec_len t.next + n ≤ vec_capacity t.next
  pub texts : HasRoom t.texts n (n * 32)
