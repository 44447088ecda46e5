-- Worked histories and certificates, with the verdict on each.
use Rattle.std.proofs.Common.{◌≡◌, ℕ, true, false, List, [], ◌∷◌, Some, None, refl, codes}
use Rattle.adya_values.specs.declared.fault.Rule.TheVariants.{M1, M2, M3, M4, M5, M6, M7, M8}
use Rattle.adya_values.specs.Computing.Faults.{Fault, Malformed, AbortedRead, IntermediateRead, first_fault}
use Rattle.adya_values.specs.Meaning.Histories.{Live, Dead, Event, Write, Delete, Read, Scan, Commit, Abort, Order, FinalPair, History}
use Rattle.adya_values.specs.declared.edition.Edition.TheVariants.{One, Two}
use Rattle.adya_values.specs.Meaning.Events.{version, entry}
use Rattle.adya_values.specs.Meaning.Edges.{Kind, Ww, Wr, Rw, Edge}
use Rattle.adya_values.specs.Computing.EdgeList.{edge_list}
use Rattle.adya_values.specs.Meaning.Serial.{pair}
use Rattle.adya_values.specs.Computing.Certificates.{lists_the_committed, first_backward}

abbrev pub a : List ℕ
a = codes "a"

abbrev pub b : List ℕ
b = codes "b"

abbrev pub m : List ℕ
m = codes "m"

abbrev pub x : List ℕ
x = codes "x"

abbrev pub y : List ℕ
y = codes "y"

abbrev pub z : List ℕ
z = codes "z"

abbrev pub order : List ℕ → List ℕ → Order
order k ts = record { key = k; writers = ts }

abbrev pub edge : Kind → List ℕ → ℕ → ℕ → Edge
edge kind k from to = record { from = from; kind = kind; key = k; to = to }

abbrev pub history : List Event → List Order → List FinalPair → History
history events orders finals =
    record { edition = One; events = events; unfinished = []; orders = orders; finals = finals }

abbrev pub history_two : List Event → List ℕ → History
history_two events unfinished =
    record { edition = Two; events = events; unfinished = unfinished; orders = []; finals = [] }

-- the verdicts
abbrev pub Yes : History → List ℕ → Type 0
Yes h ts = (first_fault h ≡ None) × (lists_the_committed h ts ≡ true) × (first_backward h ts ≡ None)

abbrev pub Backward : History → List ℕ → Edge → Type 0
Backward h ts e = (first_fault h ≡ None) × (lists_the_committed h ts ≡ true) × (first_backward h ts ≡ Some e)

abbrev pub Faulty : History → Fault → Type 0
Faulty h f = first_fault h ≡ Some f

abbrev pub NotTheCommitted : History → List ℕ → Type 0
NotTheCommitted h ts = (first_fault h ≡ None) × (lists_the_committed h ts ≡ false)

empty : Yes (history [] [] []) []
empty = (refl, refl, refl)

abbrev pub writes_then_reads : List Event
writes_then_reads = Write 1 x 1 (codes "5") ∷ Commit 1 ∷ Read 2 (version x 1 1) (codes "5") ∷ Commit 2 ∷ []

abbrev pub written_then_read : History
written_then_read = history writes_then_reads (order x (1 ∷ []) ∷ []) (pair x (codes "5") ∷ [])

write_then_read : Yes written_then_read (1 ∷ 2 ∷ [])
write_then_read = (refl, refl, refl)

write_then_read_reversed : Backward written_then_read (2 ∷ 1 ∷ []) (edge Wr x 1 2)
write_then_read_reversed = (refl, refl, refl)

certificate_lacks_one : NotTheCommitted written_then_read (1 ∷ [])
certificate_lacks_one = (refl, refl)

certificate_names_one_twice : NotTheCommitted written_then_read (1 ∷ 1 ∷ 2 ∷ [])
certificate_names_one_twice = (refl, refl)

final_with_another_value : Faulty (history writes_then_reads
    (order x (1 ∷ []) ∷ []) (pair x (codes "6") ∷ [])) (Malformed 7 M8)
final_with_another_value = refl

-- each reads what the other then overwrites
abbrev pub skewed : List Event
skewed =
    Write 1 x 1 (codes "0") ∷ Write 1 y 1 (codes "0") ∷ Commit 1 ∷
    Read 2 (version x 1 1) (codes "0") ∷ Read 2 (version y 1 1) (codes "0") ∷
    Read 3 (version x 1 1) (codes "0") ∷ Read 3 (version y 1 1) (codes "0") ∷
    Write 2 x 1 (codes "0") ∷ Write 3 y 1 (codes "0") ∷ Commit 2 ∷ Commit 3 ∷ []

abbrev pub skew : History
skew = history skewed (order x (1 ∷ 2 ∷ []) ∷ order y (1 ∷ 3 ∷ []) ∷ []) (pair x (codes "0") ∷ pair y (codes "0") ∷ [])

write_skew : edge_list skew ≡
    edge Ww x 1 2 ∷ edge Ww y 1 3 ∷
    edge Wr x 1 2 ∷ edge Wr y 1 2 ∷ edge Rw y 2 3 ∷
    edge Wr x 1 3 ∷ edge Rw x 3 2 ∷ edge Wr y 1 3 ∷ []
write_skew = refl

write_skew_123 : Backward skew (1 ∷ 2 ∷ 3 ∷ []) (edge Rw x 3 2)
write_skew_123 = (refl, refl, refl)

write_skew_132 : Backward skew (1 ∷ 3 ∷ 2 ∷ []) (edge Rw y 2 3)
write_skew_132 = (refl, refl, refl)

order_lacks_a_writer : Faulty (history skewed
    (order x (1 ∷ []) ∷ order y (1 ∷ 3 ∷ []) ∷ []) (pair x (codes "0") ∷ pair y (codes "0") ∷ [])) (Malformed 13 M7)
order_lacks_a_writer = refl

aborted_read : Faulty (history
    (Write 1 x 1 (codes "5") ∷ Read 2 (version x 1 1) (codes "5") ∷ Write 1 x 2 (codes "6") ∷
    Abort 1 ∷ Commit 2 ∷ []) [] []) (AbortedRead 3 (version x 1 1))
aborted_read = refl

intermediate_read : Faulty (history
    (Write 1 x 1 (codes "5") ∷ Read 2 (version x 1 1) (codes "5") ∷ Write 1 x 2 (codes "6") ∷
    Commit 1 ∷ Commit 2 ∷ [])
    (order x (1 ∷ []) ∷ []) (pair x (codes "6") ∷ [])) (IntermediateRead 3 (version x 1 1))
intermediate_read = refl

event_after_end_of_transaction : Faulty (history (Commit 1 ∷ Write 1 x 1 (codes "5") ∷ []) [] []) (Malformed 3 M1)
event_after_end_of_transaction = refl

modification_not_counted_from_one : Faulty (history (Write 1 x 2 (codes "5") ∷ Abort 1 ∷ []) [] []) (Malformed 2 M2)
modification_not_counted_from_one = refl

modification_number_at_limit : Faulty (history (Write 1 x 65535 (codes "5") ∷ Abort 1 ∷ []) [] []) (Malformed 2 M2)
modification_number_at_limit = refl

read_before_write : Faulty (history (Read 2 (version x 1 1) (codes "5") ∷ Commit 2 ∷ []) [] []) (Malformed 2 M3)
read_before_write = refl

scan_without_own_write : Faulty (history (Write 1 x 1 (codes "5") ∷ Scan 1 a z [] ∷ Abort 1 ∷ []) [] []) (Malformed 3 M4)
scan_without_own_write = refl

scan_bounds_crossed : Faulty (history (Scan 1 m a [] ∷ Commit 1 ∷ []) [] []) (Malformed 2 M5)
scan_bounds_crossed = refl

transaction_without_end : Faulty (history (Write 1 x 1 (codes "5") ∷ []) [] []) (Malformed 3 M6)
transaction_without_end = refl

-- a scan that finds nothing, and then what it missed is written
abbrev pub phantom : History
phantom = history
    (Scan 1 a m [] ∷ Write 2 b 1 (codes "1") ∷ Write 2 z 1 (codes "1") ∷ Commit 2 ∷
    Read 1 (version z 2 1) (codes "1") ∷ Commit 1 ∷ [])
    (order b (2 ∷ []) ∷ order z (2 ∷ []) ∷ []) (pair b (codes "1") ∷ pair z (codes "1") ∷ [])

phantom_12 : Backward phantom (1 ∷ 2 ∷ []) (edge Wr z 2 1)
phantom_12 = (refl, refl, refl)

phantom_21 : Backward phantom (2 ∷ 1 ∷ []) (edge Rw b 1 2)
phantom_21 = (refl, refl, refl)

abbrev pub scanned_value_overwritten : History
scanned_value_overwritten = history
    (Write 1 b 1 (codes "5") ∷ Commit 1 ∷ Scan 2 a m (entry (version b 1 1) (Live (codes "5")) ∷ []) ∷
    Write 3 b 1 (codes "6") ∷ Commit 3 ∷ Commit 2 ∷ [])
    (order b (1 ∷ 3 ∷ []) ∷ []) (pair b (codes "6") ∷ [])

scanned_value_overwritten_123 : Yes scanned_value_overwritten (1 ∷ 2 ∷ 3 ∷ [])
scanned_value_overwritten_123 = (refl, refl, refl)

scanned_value_overwritten_132 : Backward scanned_value_overwritten (1 ∷ 3 ∷ 2 ∷ []) (edge Rw b 2 3)
scanned_value_overwritten_132 = (refl, refl, refl)

dead_version_after_own : Backward (history
    (Write 1 x 1 (codes "5") ∷ Commit 1 ∷ Delete 3 x 1 ∷ Scan 2 x x (entry (version x 3 1) Dead ∷ []) ∷
    Delete 2 x 1 ∷ Commit 3 ∷ Commit 2 ∷ [])
    (order x (1 ∷ 2 ∷ 3 ∷ []) ∷ []) []) (1 ∷ 2 ∷ 3 ∷ []) (edge Wr x 3 2)
dead_version_after_own = (refl, refl, refl)

two_empty : Yes (history_two [] []) []
two_empty = (refl, refl, refl)

two_without_end : Faulty (history_two (Write 1 x 1 (codes "5") ∷ []) []) (Malformed 3 M6)
two_without_end = refl

two_committed_and_unfinished : Faulty (history_two (Commit 1 ∷ []) (1 ∷ [])) (Malformed 3 M6)
two_committed_and_unfinished = refl

two_read_of_unfinished : Faulty (history_two
    (Write 1 x 1 (codes "5") ∷ Read 2 (version x 1 1) (codes "5") ∷ Commit 2 ∷ []) (1 ∷ [])) (AbortedRead 3 (version x 1 1))
two_read_of_unfinished = refl
