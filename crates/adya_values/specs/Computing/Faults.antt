-- The faults of a history, in the order in which they are reported; there are none if and only if it `IsChecked`.
-- Lines are those of the history's text: its head is line 1, and each event, order and final has a line.
use Rattle.std.specs.Prelude.{ℕ, suc, ◌+◌, ◌==◌, Bool, true, false, cond, not, ◌&&◌, ◌||◌, List, [], ◌∷◌, ◌++◌, length, Option, Some, None, is_some, is_none, map, filter, count_by}
use Rattle.std.specs.List.{filter_map, list_any, list_all}
use Rattle.adya_values.specs.declared.event.Version.{Version}
use Rattle.adya_values.specs.declared.fault.Rule.{Rule}
use Rattle.adya_values.specs.declared.fault.Rule.TheVariants.{M1, M2, M3, M4, M5, M6, M7, M8}
use Rattle.adya_keys.specs.Meaning.Keys.{key_eq, key_le, lies_in, keys_rise}
use Rattle.adya_values.specs.Meaning.Histories.{Content, Live, Dead, Entry, Event, Write, Delete, Read, Scan, Commit, Abort, Order, FinalPair, History}
use Rattle.adya_values.specs.Meaning.Events.{txn_of, entry, written, observed, writes_of, last_write, is_committed, is_unfinished, is_aborted}
use Rattle.adya_values.specs.Clauses.Rules.{has_ended, installs, final_value}
use Rattle.adya_values.specs.Meaning.Orders.{writers, value_at}

-- a line that breaks a rule, or at which a committed transaction sees a version that it may not see
pub data Fault : Type 0 where
  Malformed : (line : ℕ) (rule : Rule) → Fault
  AbortedRead : (line : ℕ) (version : Version) → Fault
  IntermediateRead : (line : ℕ) (version : Version) → Fault

abbrev pub content_eq : Content → Content → Bool
content_eq (Live v) (Live w) = key_eq v w
content_eq (Live v) Dead = false
content_eq Dead (Live w) = false
content_eq Dead Dead = true

abbrev pub version_eq : Version → Version → Bool
version_eq a b = key_eq a.key b.key && ((a.txn == b.txn) && (a.m == b.m))

abbrev pub entry_eq : Entry → Entry → Bool
entry_eq a b = version_eq a.version b.version && content_eq a.content b.content

abbrev pub is_entry : Option Entry → Entry → Bool
is_entry None b = false
is_entry (Some a) b = entry_eq a b

-- there is no entry, or it is this one
abbrev pub is_none_or : Option Entry → Entry → Bool
is_none_or None b = true
is_none_or (Some a) b = entry_eq a b

-- the list has the entry, and no other of its key
abbrev pub lists_only : List Entry → Entry → Bool
lists_only es w = list_any (entry_eq w) es && list_all (λ x. not (key_eq x.version.key w.version.key) || entry_eq x w) es

abbrev pub none_or_lists_only : List Entry → Option Entry → Bool
none_or_lists_only es None = true
none_or_lists_only es (Some w) = lists_only es w

-- M1, M2 and M3 of the event, given those before it
abbrev pub is_open : List Event → Event → Bool
is_open before e = not (has_ended before (txn_of e))

abbrev pub is_next : List Event → Option Entry → Bool
is_next before None = true
is_next before (Some w) = w.version.m == suc (length (writes_of w.version.txn w.version.key before))

abbrev pub was_written : List Event → Event → Bool
was_written before e = list_all (λ o. list_any (entry_eq o) (filter_map written before)) (observed e)

-- M4 of the event
abbrev pub sees_own : List Event → Event → Bool
sees_own before (Read t r v) = is_none_or (last_write t r.key before) (entry r (Live v))
sees_own before (Scan t low high es) =
    list_all (λ w. not (lies_in low high w.version.key) || none_or_lists_only es (last_write t w.version.key before)) (filter_map written before)
sees_own before (Write t k m v) = true
sees_own before (Delete t k m) = true
sees_own before (Commit t) = true
sees_own before (Abort t) = true

-- M5
abbrev pub is_rising : Event → Bool
is_rising (Scan t low high es) = key_le low high && keys_rise (map (λ w. w.version.key) es) && list_all (λ w. lies_in low high w.version.key) es
is_rising (Read t r v) = true
is_rising (Write t k m v) = true
is_rising (Delete t k m) = true
is_rising (Commit t) = true
is_rising (Abort t) = true

-- one fault if the test fails, and else none
abbrev pub fault_unless : Bool → ℕ → Rule → List Fault
fault_unless true line rule = []
fault_unless false line rule = Malformed line rule ∷ []

-- the faults of an event, given those before it
abbrev pub faults_at : List Event → ℕ → Event → List Fault
faults_at before line e =
    fault_unless (is_open before e) line M1 ++
    (fault_unless (is_next before (written e)) line M2 ++
    (fault_unless (was_written before e) line M3 ++
    (fault_unless (sees_own before e) line M4 ++
    fault_unless (is_rising e) line M5)))

abbrev pub event_faults : List Event → ℕ → List Event → List Fault
event_faults before line [] = []
event_faults before line (e ∷ es) = faults_at before line e ++ event_faults (before ++ e ∷ []) (suc line) es

abbrev pub unfinished_faults : List Event → ℕ → List ℕ → List Fault
unfinished_faults events line [] = []
unfinished_faults events line (t ∷ ts) = fault_unless (not (has_ended events t)) line M6 ++ unfinished_faults events (suc line) ts

abbrev pub all_end : History → Bool
all_end h = list_all (λ e. has_ended h.events (txn_of e) || is_unfinished h (txn_of e)) h.events

-- the list has each number that passes the test once, and no others; only numbers of the list and transactions of
-- the events can pass
abbrev pub lists_exactly : (ℕ → Bool) → List ℕ → List Event → Bool
lists_exactly test xs events =
    list_all (λ t. count_by (λ u. u == t) xs == cond (test t) 1 0) xs &&
    list_all (λ e. count_by (λ u. u == txn_of e) xs == cond (test (txn_of e)) 1 0) events

abbrev pub order_faults : List Event → ℕ → List Order → List Fault
order_faults events line [] = []
order_faults events line (o ∷ os) = fault_unless (lists_exactly (installs events o.key) o.writers events) line M7 ++ order_faults events (suc line) os

-- each key with a committed writer has an order line
abbrev pub has_lines : History → Bool
has_lines h = list_all (λ w. not (is_committed h.events w.version.txn) || list_any (λ o. key_eq o.key w.version.key) h.orders) (filter_map written h.events)

-- the value of the key's last version, if it has one
abbrev pub last_value : History → List ℕ → Option (List ℕ)
last_value h k = value_at h k (length (writers h k))

abbrev pub is_value : Option (List ℕ) → List ℕ → Bool
is_value None v = false
is_value (Some w) v = key_eq w v

abbrev pub final_faults : History → ℕ → List FinalPair → List Fault
final_faults h line [] = []
final_faults h line (f ∷ fs) = fault_unless (is_value (last_value h f.key) f.value) line M8 ++ final_faults h (suc line) fs

-- each key whose last version has a value has a final line
abbrev pub has_finals : History → Bool
has_finals h = list_all (λ o. is_none (last_value h o.key) || is_some (final_value h.finals o.key)) h.orders

-- the first lines of the parts of the text
abbrev pub unfinished_line : History → ℕ
unfinished_line h = 2 + length h.events

abbrev pub orders_line : History → ℕ
orders_line h = unfinished_line h + length h.unfinished

abbrev pub finals_line : History → ℕ
finals_line h = orders_line h + length h.orders

abbrev pub tail_line : History → ℕ
tail_line h = finals_line h + length h.finals

-- the faults of the rules, by line and rule
abbrev pub malformed : History → List Fault
malformed h =
    event_faults [] 2 h.events ++
    (unfinished_faults h.events (unfinished_line h) h.unfinished ++
    (fault_unless (all_end h) (orders_line h) M6 ++
    (order_faults h.events (orders_line h) h.orders ++
    (fault_unless (has_lines h) (finals_line h) M7 ++
    (final_faults h (finals_line h) h.finals ++
    fault_unless (has_finals h) (tail_line h) M8)))))

-- the reads of committed transactions that fail the test, by line and place in the list
abbrev pub bad_reads : (Event → Entry → Bool) → (ℕ → Version → Fault) → List Event → ℕ → List Event → List Fault
bad_reads good fault events line [] = []
bad_reads good fault events line (e ∷ es) =
    map (λ o. fault line o.version) (filter (λ o. is_committed events (txn_of e) && not (good e o)) (observed e)) ++
    bad_reads good fault events (suc line) es

abbrev pub aborted_reads : History → List Fault
aborted_reads h = bad_reads (λ e o. not (is_aborted h o.version.txn)) AbortedRead h.events 2 h.events

abbrev pub is_last_of_another : History → Event → Entry → Bool
is_last_of_another h e o = (o.version.txn == txn_of e) || is_entry (last_write o.version.txn o.version.key h.events) o

abbrev pub intermediate_reads : History → List Fault
intermediate_reads h = bad_reads (is_last_of_another h) IntermediateRead h.events 2 h.events

abbrev pub first : {X : Type 0} → List X → Option X
first [] = None
first (x ∷ xs) = Some x

-- all faults of a history, in order
abbrev pub check_faults : History → List Fault
check_faults h = malformed h ++ (aborted_reads h ++ intermediate_reads h)

-- the first fault of the first kind that is there
abbrev pub first_fault : History → Option Fault
first_fault h = first (check_faults h)
