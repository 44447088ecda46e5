-- What the events of a list say by the numbers of keys: each key that they name has its index among the keys for a number.
use Rattle.std.specs.Prelude.{ℕ, Bool, List, Option, Some, None}
use Rattle.adya_keys.specs.Machinery.KeyTables.{keys_in}
use Rattle.adya_values.specs.declared.event.NumberedVersion.{NumberedVersion}
use Rattle.adya_values.specs.declared.event.Version.{Version}
use Rattle.adya_values.specs.declared.events.Events.{Events}
use Rattle.adya_values.specs.declared.seen.Observed.{Observed}
use Rattle.adya_values.specs.declared.seen.Observed.TheVariants.{One, Many}
use Rattle.adya_values.specs.declared.seen.Seen.{Seen}
use Rattle.adya_keys.specs.Meaning.Keys.{Key}
use Rattle.adya_values.specs.Meaning.Histories.{Entry, Event, Write, Delete, Read, Scan, Commit, Abort}
use Rattle.adya_keys.specs.Machinery.Within.{key_at}
use Rattle.adya_values.specs.Machinery.Packed.{entry_of_seen, is_seen_of}

-- the keys that the events name, by their numbers
abbrev pub keys_of : Events → List Key
keys_of es = (keys_in es.arena.keys)

-- the version, whose key the number says
abbrev pub version_in : List Key → NumberedVersion → Version
version_in ks v = record { key = key_at ks v.key; txn = v.txn; m = v.m }

-- the entry that is seen
abbrev pub seen_entry : Events → Seen → Entry
seen_entry es s = entry_of_seen es.arena s

-- its key has this number, and its value is there
abbrev pub has_seen : Events → Seen → Bool
has_seen es s = is_seen_of es.arena s

-- what is seen, in order
abbrev pub seen_in : Observed → List Seen
seen_in (One seen) = seen
seen_in (Many seen) = seen.now

-- the bounds of a scan
abbrev pub bounds : Event → Option (Key × Key)
bounds (Scan t low high es) = Some (low, high)
bounds (Write t k m v) = None
bounds (Delete t k m) = None
bounds (Read t r v) = None
bounds (Commit t) = None
bounds (Abort t) = None

-- the keys of both numbers
abbrev pub both_at : List Key → ℕ × ℕ → Key × Key
both_at ks b = (key_at ks b.0, key_at ks b.1)
