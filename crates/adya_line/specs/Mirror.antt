-- An event that lies in a line, without the line.
use Rattle.std.specs.Prelude.{◌≡◌, List, [], ◌∷◌, Option, Some, None}
use Rattle.adya_values.specs.Meaning.Histories.{Entry, Event}
use Rattle.adya_values.specs.Meaning.Histories as plain
use Rattle.adya_line.specs.declared.event_ref.EventRef.{EventRef}
use Rattle.adya_line.specs.declared.event_ref.EventRef.TheVariants.{Write, Delete, Read, Scan, Commit, Abort}
use Rattle.adya_values.specs.declared.entry_ref.EntryRef.{EntryRef}
use Rattle.adya_values.specs.Mirror.Refs.{view_entry, view_version}
use Rattle.adya_line.specs.declared.entries.Entries.{Entries}
use Rattle.adya_line.specs.Computing.Reading.{entries_of}

abbrev pub view : EventRef → Event
view (Write w) = plain.Write w.version.txn w.version.key.now w.version.m w.value.now
view (Delete d) = plain.Delete d.version.txn d.version.key.now d.version.m
view (Read r) = plain.Read r.txn (view_version r.version) r.value.now
view (Scan s) = plain.Scan s.txn s.low.now s.high.now (entries_of s.listed.now)
view (Commit e) = plain.Commit e.txn
view (Abort e) = plain.Abort e.txn

-- what a scan is shown; other events are shown no list
abbrev pub entries_in : Event → List Entry
entries_in (plain.Write t k m v) = []
entries_in (plain.Delete t k m) = []
entries_in (plain.Read t r v) = []
entries_in (plain.Scan t low high es) = es
entries_in (plain.Commit t) = []
entries_in (plain.Abort t) = []

-- the event with this list in place of its own, if it is shown one
abbrev pub showing : List Entry → Event → Event
showing es (plain.Write t k m v) = plain.Write t k m v
showing es (plain.Delete t k m) = plain.Delete t k m
showing es (plain.Read t r v) = plain.Read t r v
showing es (plain.Scan t low high own) = plain.Scan t low high es
showing es (plain.Commit t) = plain.Commit t
showing es (plain.Abort t) = plain.Abort t

-- the entries that are still to come
abbrev pub entries_left : Entries → List Entry
entries_left it = entries_of it.rest.now

-- the first of them is given, or none is left now and later
abbrev pub GivesEntry : Entries → Option EntryRef → Entries → Type 0
GivesEntry old None new = (entries_left old ≡ []) × (entries_left new ≡ [])
GivesEntry old (Some e) new = entries_left old ≡ view_entry e ∷ entries_left new
