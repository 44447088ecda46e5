-- The history whose version orders are held.
use Rattle.std.specs.Prelude.{ℕ, ◌<◌, length}
use Rattle.adya_values.specs.declared.events.Events.{Events}
use Rattle.adya_values.specs.declared.seen.Seen.{Seen}
use Rattle.adya_keys.specs.Machinery.Within.{key_at}
use Rattle.adya_values.specs.Meaning.Histories.{Entry, History}
use Rattle.adya_keys.specs.Meaning.Keys.{Key}
use Rattle.adya_values.specs.Mirror.Numbers.{keys_of, seen_entry}
use Rattle.adya_terms.specs.Clauses.Checked.{checked_history}
use Rattle.adya_dsg.specs.declared.version_orders.VersionOrders.{VersionOrders}

abbrev pub ordered_history : VersionOrders → History
ordered_history v = checked_history v.checked.now

-- its events, which give numbers to the keys that they name
abbrev pub ordered_events : VersionOrders → Events
ordered_events v = v.events.now

-- the entry that one of them sees
abbrev pub ordered_entry : VersionOrders → Seen → Entry
ordered_entry v s = seen_entry v.events.now s

-- a key has the number
abbrev pub IsNumber : VersionOrders → ℕ → Type 0
IsNumber v n = n < length (keys_of v.events.now)

-- the key with the number
abbrev pub numbered : VersionOrders → ℕ → Key
numbered v n = key_at (keys_of v.events.now) n
