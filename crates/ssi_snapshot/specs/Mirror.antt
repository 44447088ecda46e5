-- What is said of a view, and what its transaction sees.
use Rattle.std.specs.Prelude.{◌≡◌, ℕ, List, map, Option}
use Rattle.adya_keys.specs.Meaning.Keys.{Key}
use Rattle.adya_values.specs.Meaning.Histories.{Entry}
use Rattle.adya_values.specs.Meaning.Events.{listed}
use Rattle.ssi_versions.specs.Meaning.Changes.{Held, otherwise, entry_in}
use Rattle.ssi_versions.specs.Clauses.ByStamp.{newest_within}
use Rattle.ssi_versions.specs.Mirror.{write_of, chain_of}
use Rattle.ssi_snapshot.specs.Clauses.Listings.{within}
use Rattle.ssi_snapshot.specs.Machinery.Stored.{all_writes}
use Rattle.ssi_snapshot.specs.declared.view.View.{View}

-- the transaction
abbrev pub txn_of : View → ℕ
txn_of v = v.txn

-- its snapshot, which is the stamp of the last commit before it began
abbrev pub snapshot_of : View → ℕ
snapshot_of v = v.snapshot

-- how often it has written
abbrev pub count_of : View → ℕ
count_of v = v.count

-- its last write of each key, in the order of its first writes of the keys
abbrev pub written : View → List Entry
written v = map write_of (all_writes v.writes)

-- its last write of the key
abbrev pub own : Key → View → Option Entry
own key v = listed key (written v)

-- what it sees of the key: its own last write, or else the newest version at its snapshot
abbrev pub sees : Key → View → List Held → Option Entry
sees key v held = otherwise (own key v) (entry_in (newest_within v.snapshot (chain_of key held)))

-- the same of the keys of a range
abbrev pub sees_between : Key → Key → View → List Held → Key → Option Entry
sees_between low high v held = within low high (λ key. sees key v held)

-- the same transaction, snapshot and writes
abbrev pub IsAsBefore : View → View → Type 0
IsAsBefore old new = (txn_of new ≡ txn_of old) × (snapshot_of new ≡ snapshot_of old) × (count_of new ≡ count_of old)
    × (written new ≡ written old)
