-- The plain value that a value of the code holds, and what is said of the keys of a list by their numbers and places.
use Rattle.std.specs.Prelude.{◌≡◌, ℕ, ◌<◌, ◌≤◌, true, false, List, length, take, Option, Some, position, slice_get}
use Rattle.adya_keys.specs.declared.value.Value.{Value}
use Rattle.adya_keys.specs.Meaning.Keys.{Bytes, Key, key_eq, key_lt}
use Rattle.adya_keys.specs.Machinery.Within.{key_at}

-- the bytes of a value
abbrev pub value_of : Value → Bytes
value_of v = take v.len v.bytes

-- the number of the key, if it has one
abbrev pub number_in : List Key → Key → Option ℕ
number_in ks k = position (key_eq k) ks

-- each number is that of its key alone
abbrev pub AreNumbered : List Key → Type 0
AreNumbered ks = (n : ℕ) → n < length ks → number_in ks (key_at ks n) ≡ Some n

-- so many keys are below this one, and the others aren't
pub record IsBelow (ks : List Key) (k : Key) (n : ℕ) : Type 0 where
  pub below : (i : ℕ) (j : Key) → i < n → slice_get ks i ≡ Some j → key_lt j k ≡ true
  pub others : (i : ℕ) (j : Key) → n ≤ i → slice_get ks i ≡ Some j → key_lt j k ≡ false
