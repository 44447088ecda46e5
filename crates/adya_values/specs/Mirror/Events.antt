-- The plain value that an event, an order line or a final value of the code holds.
use Rattle.std.specs.Prelude.{ℕ, ◌+◌, ◌≤◌, List, map, vec_len, vec_capacity}
use Rattle.adya_keys.specs.Machinery.KeyTables.{keys_in}
use Rattle.adya_values.specs.declared.event.Event.{Event as EventValue}
use Rattle.adya_values.specs.declared.order.Order.{Order as OrderValue}
use Rattle.adya_values.specs.declared.order.FinalPair.{FinalPair as FinalValue}
use Rattle.adya_values.specs.Meaning.Histories.{Abort, Commit, Content, Dead, Delete, Entry, Event, FinalPair, Live, Order, Read, Scan, Write}
use Rattle.adya_values.specs.declared.event.Content.{Content as ContentValue}
use Rattle.adya_values.specs.declared.event.Entry.{Entry as EntryValue}
use Rattle.adya_keys.specs.Mirror.{value_of}
use Rattle.adya_values.specs.Mirror.Refs.{view_entry}
use Rattle.adya_values.specs.declared.listed.Listed.{Listed}
use Rattle.adya_values.specs.declared.listed.Listed.TheVariants as As
use Rattle.adya_values.specs.Machinery.Seen.{entry_in}
use Rattle.adya_values.specs.Machinery.Packed.{entry_of_seen, event_in, HasRoomIn}
use Rattle.adya_values.specs.declared.event.Content.TheVariants as Holds
use Rattle.adya_values.specs.declared.event.Event.TheVariants as In
use Rattle.adya_values.specs.declared.event.EventView.{EventView}
use Rattle.adya_values.specs.declared.event.EventView.TheVariants as Seen
use Rattle.adya_values.specs.declared.events.Events.{Events}
use Rattle.adya_values.specs.declared.arena.Arena.{Arena}
use Rattle.adya_values.specs.declared.arena.Row.{Row}

abbrev pub content_of : ContentValue → Content
content_of (Holds.Live v) = Live (value_of v)
content_of Holds.Dead = Dead

abbrev pub entry_of : EntryValue → Entry
entry_of w = record { version = w.version; content = content_of w.content }

abbrev pub event_of : EventValue → Event
event_of (In.Write t k m v) = Write t k m (value_of v)
event_of (In.Delete t k m) = Delete t k m
event_of (In.Read t r v) = Read t r (value_of v)
event_of (In.Scan t low high es) = Scan t low high (map entry_of es.items)
event_of (In.Commit t) = Commit t
event_of (In.Abort t) = Abort t

-- what a scan lists
abbrev pub entries_of : Listed → List Entry
entries_of (As.Plain es) = map entry_of es.now
entries_of (As.Slices es) = map view_entry es.now
entries_of (As.Packed p) = map (entry_in (keys_in p.keys.now) p.bytes.now) p.seen.now

abbrev pub view_of : EventView → Event
view_of (Seen.Write t k m v) = Write t k m (value_of v)
view_of (Seen.Delete t k m) = Delete t k m
view_of (Seen.Read t r v) = Read t r (value_of v)
view_of (Seen.Scan t low high es) = Scan t low high (entries_of es)
view_of (Seen.Commit t) = Commit t
view_of (Seen.Abort t) = Abort t

-- the event of a row
abbrev pub event_of_row : Arena → Row → Event
event_of_row a r = event_in (keys_in a.keys) a.bytes.items a.listings.items (map (entry_of_seen a) a.seen.items) r

abbrev pub events_of : Events → List Event
events_of es = map (event_of_row es.arena) es.rows.items

-- so many more events fit into the rows, which is enough for commits and aborts
abbrev pub HasRows : Events → ℕ → Type 0
HasRows es n = vec_len es.rows + n ≤ vec_capacity es.rows

-- beside its row, what an event holds fits that lists no more than so many entries
abbrev pub HasRoomFor : Events → ℕ → Type 0
HasRoomFor es n = HasRoomIn es.arena n

abbrev pub order_of : OrderValue → Order
order_of o = record { key = o.key; writers = o.writers.items }

abbrev pub final_of : FinalValue → FinalPair
final_of f = record { key = f.key; value = value_of f.value }
