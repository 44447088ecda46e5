-- What the parts of the check return.
use Rattle.std.specs.Prelude.{◌≡◌, ℕ, ◌+◌, ◌==◌, Bool, not, ◌&&◌, ◌||◌, List, [], ◌++◌, length, Option, Some, None, map, filter}
use Rattle.std.specs.List.{list_any}
use Rattle.std.specs.BTreeSet.{BTreeSet, contains}
use Rattle.std.specs.Ordering.{nat_cmp}
use Rattle.adya_values.specs.declared.event.Version.{Version}
use Rattle.adya_values.specs.declared.fault.Rule.TheVariants.{M6, M7, M8}
use Rattle.adya_values.specs.declared.fault.CheckFault.{CheckFault}
use Rattle.adya_keys.specs.Meaning.Keys.{key_eq}
use Rattle.adya_values.specs.Meaning.Histories.{Entry, Event, FinalPair, History, Order}
use Rattle.adya_values.specs.declared.edition.Edition.TheVariants.{One, Two}
use Rattle.adya_values.specs.Meaning.Events.{txn_of, observed, is_committed, aborts, last_write}
use Rattle.adya_values.specs.Clauses.Rules.{has_ended}
use Rattle.adya_values.specs.Computing.Faults.{Fault, entry_eq, first, is_entry, fault_unless, aborted_reads, all_end, intermediate_reads, order_faults, has_lines, final_faults, has_finals}
use Rattle.adya_terms.specs.Clauses.Faults.{IsFault}

-- the fault is the first of the list, or memory ran out
abbrev pub Names : List Fault → CheckFault → Type 0
Names fs e = IsFault (first fs) e

-- the history of these parts
abbrev pub parts : List Event → List Order → List FinalPair → History
parts events orders finals = record {
  edition = One;
  events = events;
  unfinished = [];
  orders = orders;
  finals = finals;
}

-- the same with unfinished transactions
abbrev pub whole : List Event → List ℕ → List Order → List FinalPair → History
whole events unfinished orders finals = record {
  edition = Two;
  events = events;
  unfinished = unfinished;
  orders = orders;
  finals = finals;
}

-- the entry is of no aborted or unfinished transaction
abbrev pub is_not_aborted : List Event → List ℕ → Event → Entry → Bool
is_not_aborted all unfinished e o = not (list_any (aborts o.version.txn) all || list_any (λ u. u == o.version.txn) unfinished)

-- the set holds the numbers of the list
abbrev pub Holds : BTreeSet ℕ → List ℕ → Type 0
Holds s us = (t : ℕ) → contains nat_cmp s t ≡ list_any (λ u. u == t) us

-- the entry is of the event's transaction, or its writer's last of the key
abbrev pub is_own_or_last : List Event → Event → Entry → Bool
is_own_or_last all e o = (o.version.txn == txn_of e) || is_entry (last_write o.version.txn o.version.key all) o

-- what the event sees and the test refuses, if the event's transaction is committed
abbrev pub refused : (Event → Entry → Bool) → List Event → Event → List Entry
refused good events e = filter (λ o. is_committed events (txn_of e) && not (good e o)) (observed e)

-- none, or the first of the list
abbrev pub IsFirst : List Entry → Option Version → Type 0
IsFirst es None = es ≡ []
IsFirst es (Some v) = first (map (λ o. o.version) es) ≡ Some v

-- M7, from the line of the first order on
abbrev pub listing_faults : History → ℕ → List Fault
listing_faults h line = order_faults h.events line h.orders ++ fault_unless (has_lines h) (line + length h.orders) M7

-- M8, from the line of the first final on
abbrev pub final_value_faults : History → ℕ → List Fault
final_value_faults h line = final_faults h line h.finals ++ fault_unless (has_finals h) (line + length h.finals) M8

-- the faults of the lines from the first order on
abbrev pub rule_faults : History → ℕ → List Fault
rule_faults h line =
    fault_unless (all_end h) line M6 ++
    (listing_faults h line ++
    final_value_faults h (line + length h.orders))

-- aborted and intermediate reads
abbrev pub read_faults : History → List Fault
read_faults h = aborted_reads h ++ intermediate_reads h

-- the entry is this write, or of another key
abbrev pub is_of_key : Entry → Entry → Bool
is_of_key w x = not (key_eq x.version.key w.version.key) || entry_eq x w

-- the event's transaction has ended or is unfinished
abbrev pub ends : List Event → List ℕ → Event → Bool
ends all unfinished e = has_ended all (txn_of e) || list_any (λ u. u == txn_of e) unfinished
