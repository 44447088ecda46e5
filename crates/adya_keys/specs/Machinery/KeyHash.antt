-- A number of each key, which spreads the keys over the buckets of a table.
use Rattle.std.specs.Prelude.{ℕ, ◌+◌, ◌*◌, ◌/◌, ◌%◌, fold}
use Rattle.adya_keys.specs.Meaning.Keys.{Key}

-- a number of the bytes so far, and one more byte
abbrev pub mixed : ℕ → ℕ → ℕ
mixed h b = (h + b) % 18446744073709551616 * 11400714819323198485 % 18446744073709551616

abbrev pub hash_of : Key → ℕ
hash_of k = fold mixed 0 k / 4294967296

-- the bucket of the key among so many
abbrev pub bucket_of : ℕ → Key → ℕ
bucket_of buckets k = hash_of k * buckets / 4294967296
