-- Snapshots, own writes, and what a transaction sees. The nth commit of a log has stamp n.
use Rattle.std.specs.Prelude.{ℕ, suc, ◌==◌, Bool, not, ◌&&◌, if◌then◌else◌, List, [], ◌∷◌, ◌++◌, Option, Some, None, is_some, map}
use Rattle.std.specs.List.{filter_map}
use Rattle.adya_keys.specs.Meaning.Keys.{Key, key_eq, lies_in}
use Rattle.adya_values.specs.Meaning.Histories.{Entry}
use Rattle.adya_values.specs.Meaning.Events.{version, entry}
use Rattle.adya_values.specs.Meaning.KeySets.{insert}
use Rattle.ssi_versions.specs.Meaning.Changes.{Change, Installs, Collects as Drops, entry_in, otherwise, contents}
use Rattle.ssi_store.specs.Meaning.Acts.{Act, Begins, Writes, Commits, Collects, open_txns}

abbrev pub commit_count : List Act → ℕ
commit_count [] = 0
commit_count (Commits t ∷ log) = suc (commit_count log)
commit_count (a ∷ log) = commit_count log

-- the number of commits before the transaction began
abbrev pub snapshot : ℕ → List Act → ℕ
snapshot t [] = 0
snapshot t (Begins u ∷ log) = if u == t then commit_count log else snapshot t log
snapshot t (a ∷ log) = snapshot t log

abbrev pub open_snapshots : List Act → List ℕ
open_snapshots log = map (λ t. snapshot t log) (open_txns log)

abbrev pub write_count : ℕ → Key → List Act → ℕ
write_count t k [] = 0
write_count t k (Writes u j c ∷ log) = if u == t && key_eq j k then suc (write_count t k log) else write_count t k log
write_count t k (a ∷ log) = write_count t k log

abbrev pub own_write : ℕ → Key → List Act → Option Entry
own_write t k [] = None
own_write t k (Writes u j c ∷ log) = if u == t && key_eq j k then Some
    (entry (version k t (suc (write_count t k log))) c) else own_write t k log
own_write t k (a ∷ log) = own_write t k log

abbrev pub wrote : ℕ → Key → List Act → Bool
wrote t k log = is_some (own_write t k log)

-- in the order of their first writes
abbrev pub own_keys : ℕ → List Act → List Key
own_keys t [] = []
own_keys t (Writes u k c ∷ log) = if u == t && not (wrote t k log) then own_keys t log ++ k ∷ [] else own_keys t log
own_keys t (a ∷ log) = own_keys t log

-- its last write of each
abbrev pub last_writes : ℕ → List Act → List Entry
last_writes t log = filter_map (λ k. own_write t k log) (own_keys t log)

-- what a store of versions is told: each commit installs its last writes, and each collection names the open snapshots
abbrev pub changed : List Act → List Change
changed [] = []
changed (Commits t ∷ log) = Installs (suc (commit_count log)) (last_writes t log) ∷ changed log
changed (Collects ∷ log) = Drops (open_snapshots log) ∷ changed log
changed (a ∷ log) = changed log

-- the version of the key after the first s commits
abbrev pub committed : Key → ℕ → List Act → Option Entry
committed k s log = entry_in (contents k s (changed log))

-- the transaction sees its own last write of a key, and else the contents at its snapshot
abbrev pub sees : ℕ → Key → List Act → Option Entry
sees t k log = otherwise (own_write t k log) (committed k (snapshot t log) log)

-- all keys that were written, rising
abbrev pub keys : List Act → List Key
keys [] = []
keys (Writes t k c ∷ log) = insert k (keys log)
keys (a ∷ log) = keys log

-- what is seen of each key of the range, dead versions included
abbrev pub scanned : ℕ → Key → Key → List Act → List Entry
scanned t low high log = filter_map (λ k. if lies_in low high k then sees t k log else None) (keys log)
