-- What an array of the order lines of keys means, by the numbers of the keys.
use Rattle.std.specs.Prelude.{◌≡◌, ℕ, suc, ◌<◌, List, [], length, Option, Some, None, slice_get, slice_index}
use Rattle.adya_keys.specs.Meaning.Keys.{Key}
use Rattle.adya_values.specs.Meaning.Histories.{Order}
use Rattle.adya_keys.specs.Machinery.Within.{key_at}

-- the key of the line
abbrev pub key_of : Option Order → Key
key_of None = []
key_of (Some o) = o.key

-- at the number of each key is the index of its line among the first lines and 1, or else 0 if none of them is of the key
pub record FindsLines (ls : List ℕ) (ks : List Key) (os : List Order) (n : ℕ) : Type 0 where
  pub count : length ls ≡ length ks
  pub found : (k i : ℕ) → k < length ks → slice_index ls k ≡ suc i → (i < n) × (key_of (slice_get os i) ≡ key_at ks k)
  pub missing : (k : ℕ) → k < length ks → slice_index ls k ≡ 0 → (i : ℕ) → i < n → key_of (slice_get os i) ≡ key_at ks k → ⊥
