-- The place in a key's version order that an event sees, and the places that what it sees depends on (Adya 1999,
-- section 3.1.3). A scan is a predicate read: a version matches if its key is within the bounds and it has a value.
use Rattle.std.specs.Prelude.{ℕ, zero, suc, ◌==◌, Bool, true, false, not, ◌&&◌, ◌||◌, nat_lt, if◌then◌else◌, Option, Some, None}
use Rattle.adya_keys.specs.Meaning.Keys.{Key, key_eq, lies_in}
use Rattle.adya_values.specs.Meaning.Histories.{Entry, Event, Read, Scan, History}
use Rattle.adya_values.specs.Meaning.Events.{listed}
use Rattle.adya_values.specs.Meaning.Orders.{writers, is_visible_at, place}

-- the place that a scan sees of a key in its range: 0 if the key isn't listed, and none if the listed version is of
-- the scanning transaction itself
abbrev pub place_of : History → ℕ → Key → Option Entry → Option ℕ
place_of h t k None = Some 0
place_of h t k (Some w) = if w.version.txn == t then None else Some (suc (place (writers h k) w.version.txn))

-- the place that the event sees of the key, if it sees one that its own transaction hasn't written
abbrev pub selected : History → Event → Key → Option ℕ
selected h (Read t r v) k = if key_eq r.key k && not (r.txn == t) then Some (suc (place (writers h k) r.txn)) else None
selected h (Scan t low high es) k = if lies_in low high k then place_of h t k (listed k es) else None
selected h _ k = None

-- exactly one of the two
abbrev pub differ : Bool → Bool → Bool
differ true b = not b
differ false b = b

-- with the version at the place, the key begins or ceases to have a value
abbrev pub changes_matches : History → Key → ℕ → Bool
changes_matches h k zero = false
changes_matches h k (suc q) = differ (is_visible_at h k (suc q)) (is_visible_at h k q)

abbrev pub is_scan : Event → Bool
is_scan (Scan t low high es) = true
is_scan _ = false

-- what the event sees at place p depends on the version at place q: on the version seen and, at a scan, on each
-- earlier one with which the key began or ceased to match
abbrev pub reads_from : History → Event → Key → ℕ → ℕ → Bool
reads_from h e k p q = (q == p) || (is_scan e && (nat_lt q p && changes_matches h k q))

-- the version at place q overwrites what the event sees at place p: the next version does or, at a scan, each later
-- one with which the key begins or ceases to match, and the next one also if it replaces a visible version
abbrev pub overwritten_by : History → Event → Key → ℕ → ℕ → Bool
overwritten_by h e k p q = if is_scan e then nat_lt p q && (changes_matches h k q || ((q == suc p) && is_visible_at h k p)) else q == suc p
