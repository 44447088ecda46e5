-- The installed versions in a map: from a key to its line, which has each version at the place of its commit.
use Rattle.std.specs.Prelude.{◌≡◌, ℕ, true, not, ◌==◌, List, [], map, length, Option, Some, None, option_map}
use Rattle.std.specs.List.{AllByRecursion, filter_map}
use Rattle.std.specs.List.Sorted.{IsStrictlySortedBy}
use Rattle.std.specs.Map.{lookup, keys_of, values_of}
use Rattle.std.specs.BTreeMap.{BTreeMap, is_at}
use Rattle.std.specs.Ordering.{nat_cmp}
use Rattle.std.specs.Cmp.Lexicographic.{slice_cmp}
use Rattle.adya_values.specs.declared.event.Entry.{Entry as EntryValue}
use Rattle.adya_values.specs.Meaning.Histories.{Entry, Event, Order, FinalPair}
use Rattle.adya_values.specs.Mirror.Events.{entry_of}
use Rattle.adya_values.specs.Meaning.Events.{last_write, last, shown}
use Rattle.adya_values.specs.Meaning.Serial.{visible_pair_of}
use Rattle.ssi_recorder.specs.Meaning.Recorded.{by_commit}

-- the installed versions of a key, by the place of their commit
abbrev pub Line : Type 0
Line = BTreeMap ℕ EntryValue

-- the line of the key
abbrev pub line_at : List ℕ → List (List ℕ × Line) → Option Line
line_at q ls = lookup (is_at (slice_cmp nat_cmp q)) ls

-- the version at the place of the line
abbrev pub put_in : ℕ → Option Line → Option Entry
put_in r None = None
put_in r (Some m) = option_map entry_of (lookup (is_at (nat_cmp r)) m.entries)

-- the version of the key at the place
abbrev pub put_at : List ℕ → ℕ → List (List ℕ × Line) → Option Entry
put_at q r ls = put_in r (line_at q ls)

-- the line has a version, and its places rise
abbrev pub IsLine : Line → Type 0
IsLine m = (not (length m.entries == 0) ≡ true) × IsStrictlySortedBy nat_cmp (keys_of m.entries)

-- this holds of each line
abbrev pub AreLines : List (List ℕ × Line) → Type 0
AreLines ls = AllByRecursion (λ e. IsLine e.1) ls

-- the versions of a line, in order
abbrev pub line_entries : Line → List Entry
line_entries m = map entry_of (values_of m.entries)

-- the order line of a key
abbrev pub order_in : List ℕ × Line → Order
order_in e = record { key = e.0; writers = map (λ w. w.version.txn) (line_entries e.1) }

-- the final value of a key, if its last version is visible
abbrev pub final_in : List ℕ × Line → Option FinalPair
final_in e = visible_pair_of e.0 (shown (last (line_entries e.1)))

-- the last write of the key by the transaction; none if there is no transaction
abbrev pub write_by : Option ℕ → List ℕ → List Event → Option Entry
write_by None q events = None
write_by (Some t) q events = last_write t q events

-- the installed versions of the key, in the order of their commits
abbrev pub versions_by_commit : List ℕ → List Event → List Entry
versions_by_commit k events = filter_map (λ t. last_write t k events) (by_commit events)

-- the versions of a line; none if there is no line
abbrev pub versions_under : Option Line → List Entry
versions_under None = []
versions_under (Some m) = line_entries m
