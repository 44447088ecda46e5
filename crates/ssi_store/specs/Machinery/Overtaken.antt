-- Keys of a transaction of which another transaction has committed a version since it began.
use Rattle.std.specs.Prelude.{◌≡◌, ℕ, Bool, true, false, if◌then◌else◌, List, Option, Some, None, Contains}
use Rattle.adya_keys.specs.Meaning.Keys.{key_lt, key_le}
use Rattle.ssi_versions.specs.Meaning.Changes.{Held}
use Rattle.ssi_versions.specs.Clauses.ByStamp.{newest, is_above}
use Rattle.ssi_versions.specs.Mirror.{chain_of}
use Rattle.ssi_store.specs.Meaning.Replies.{writer_in}
use Rattle.ssi_store.specs.declared.overtaken.Overtaken.{Overtaken}

-- the last held version of the key has a stamp above this one
abbrev pub is_passed : ℕ → List Held → List ℕ → Bool
is_passed stamp holds key = is_above stamp (newest (chain_of key holds))

-- who wrote the last held version of the key
abbrev pub passed_by : List ℕ → List Held → ℕ
passed_by key holds = writer_in (newest (chain_of key holds))

abbrev pub key_of : Overtaken → List ℕ
key_of o = o.key

-- the one with the smaller key
abbrev pub lesser : Option Overtaken → Option Overtaken → Option Overtaken
lesser None o = o
lesser (Some a) None = Some a
lesser (Some a) (Some b) = if key_lt a.key b.key then Some a else Some b

-- the smallest of the keys that passes the test, or nothing if none does
abbrev pub IsLeast : (List ℕ → Bool) → List (List ℕ) → Option (List ℕ) → Type 0
IsLeast test ks None = (k : List ℕ) → Contains ks k → test k ≡ false
IsLeast test ks (Some j) = Contains ks j × (test j ≡ true) × ((k : List ℕ) → Contains ks k → test k ≡ true → key_le j k ≡ true)
