-- What the tables of the check tell of the events that they were made of.
use Rattle.std.specs.Prelude.{ℕ, ◌==◌, Bool, ◌&&◌, List, Option, option_and_then}
use Rattle.std.specs.HashMap.{get}
use Rattle.txn_table.specs.Mirror.{value_for}
use Rattle.adya_values.specs.declared.event.NumberedVersion.{NumberedVersion}
use Rattle.adya_values.specs.declared.event.Version.{Version}
use Rattle.adya_keys.specs.Meaning.Keys.{Key}
use Rattle.adya_values.specs.Meaning.Histories.{Event}
use Rattle.adya_values.specs.Mirror.Events.{events_of}
use Rattle.adya_values.specs.Mirror.Numbers.{keys_of}
use Rattle.adya_keys.specs.Mirror.{number_in}
use Rattle.adya_terms.specs.declared.tables.Tables.{Tables}
use Rattle.adya_terms.specs.Machinery.Tables.{Tell}
use Rattle.adya_terms.specs.Machinery.OwnWrites.{place_of}

-- the events that the tables speak of
abbrev pub told : Tables → List Event
told t = events_of t.writes.events.now

-- the keys by their numbers
abbrev pub keys_in : Tables → List Key
keys_in t = keys_of t.writes.events.now

abbrev pub numbered_eq : NumberedVersion → NumberedVersion → Bool
numbered_eq a b = (a.key == b.key) && ((a.txn == b.txn) && (a.m == b.m))

-- the version, whose key has the number
abbrev pub with_number : Version → ℕ → NumberedVersion
with_number r n = record { key = n; txn = r.txn; m = r.m }

-- the place of the version, if it was replaced
abbrev pub replaced_in : Tables → Version → Option ℕ
replaced_in t r = option_and_then (λ n. get numbered_eq t.replaced (with_number r n)) (number_in (keys_in t) r.key)

-- the tables are right about the events before, by places in all of them
abbrev pub Means : Tables → List Event → Type 0
Means t before =
    Tell (λ u. (value_for t.ended u).committed) (λ u. (value_for t.ended u).aborted) (place_of t.writes) (replaced_in t) (told t) before
