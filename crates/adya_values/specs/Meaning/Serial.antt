-- The run of transactions, one at a time, on one map of keys, and when a history agrees with it.
use Rattle.std.specs.Prelude.{◌≡◌, ℕ, ◌==◌, true, if◌then◌else◌, ◌↔◌, List, [], ◌∷◌, Option, Some, None, filter, flat_map, Contains}
use Rattle.std.specs.List.{filter_map}
use Rattle.adya_keys.specs.Meaning.Keys.{Key, Bytes, key_eq, lies_in}
use Rattle.adya_values.specs.Meaning.Histories.{Txns, Entry, Event, Write, Delete, Read, Scan, FinalPair, History}
use Rattle.adya_values.specs.Meaning.Events.{txn_of, visible}

abbrev pub Contents : Type 0
Contents = Key → Option Bytes

abbrev pub empty : Contents
empty k = None

abbrev pub put : Contents → Key → Option Bytes → Contents
put m k v j = if key_eq k j then v else m j

-- only writes and deletes change the map
abbrev pub after : Contents → Event → Contents
after m (Write t k n v) = put m k (Some v)
after m (Delete t k n) = put m k None
after m _ = m

abbrev pub run : Contents → List Event → Contents
run m [] = m
run m (e ∷ es) = run (after m e) es

abbrev pub events_of : List Event → ℕ → List Event
events_of events t = filter (λ e. txn_of e == t) events

-- the events of one transaction after those of another
abbrev pub serial_events : History → Txns → List Event
serial_events h ts = flat_map (events_of h.events) ts

abbrev pub pair : Key → Bytes → FinalPair
pair k v = record { key = k; value = v }

abbrev pub visible_pair_of : Key → Option Bytes → Option FinalPair
visible_pair_of k None = None
visible_pair_of k (Some v) = Some (pair k v)

-- without the dead versions
abbrev pub visible_pairs : List Entry → List FinalPair
visible_pairs es = filter_map (λ w. visible_pair_of w.version.key (visible w.content)) es

-- on this map a read returns the same value, and a scan lists the same keys and values
abbrev pub Sees : Contents → Event → Type 0
Sees m (Read t r v) = m r.key ≡ Some v
Sees m (Scan t low high es) = (k : Key) (v : Bytes) → ((lies_in low high k ≡ true) × (m k ≡ Some v)) ↔ Contains (visible_pairs es) (pair k v)
Sees m _ = Unit {0}

-- each event sees the map as the events before it leave it
abbrev pub AllSee : Contents → List Event → Type 0
AllSee m [] = Unit {0}
AllSee m (e ∷ es) = Sees m e × AllSee (after m e) es

-- the serial run in this order reproduces all reads and scans of the history, and ends with its finals
pub record Agrees (h : History) (ts : Txns) : Type 0 where
  pub sees : AllSee empty (serial_events h ts)
  pub finals : (k : Key) (v : Bytes) → (run empty (serial_events h ts) k ≡ Some v) ↔ Contains h.finals (pair k v)
