-- The writes of a transaction: its last write of each key, in the order of its first writes of the keys.
use Rattle.std.specs.Prelude.{ℕ, suc, if◌then◌else◌, List, [], ◌∷◌, Option, Some, None}
use Rattle.adya_keys.specs.Meaning.Keys.{Key, key_eq}
use Rattle.adya_values.specs.Meaning.Histories.{Content, Entry}
use Rattle.adya_values.specs.Meaning.Events.{version, entry, listed}

-- the list with this write: in the place of the write of its key, and at the end if there is none
abbrev pub put_write : Entry → List Entry → List Entry
put_write w [] = w ∷ []
put_write w (v ∷ vs) = if key_eq v.version.key w.version.key then w ∷ vs else v ∷ put_write w vs

-- the number of a modification, 0 if there is none
abbrev pub mod_of : Option Entry → ℕ
mod_of None = 0
mod_of (Some w) = w.version.m

-- the number of the next write of the key
abbrev pub next_mod : Key → List Entry → ℕ
next_mod key ws = suc (mod_of (listed key ws))

-- the transaction's next write of the key
abbrev pub next_write : ℕ → Key → Content → List Entry → Entry
next_write txn key content ws = entry (version key txn (next_mod key ws)) content
