-- Worked courses, checked by computing them: what is answered to the commands, the history that records them, and a
-- serial order that its certificate may have.
use Rattle.std.proofs.Common.{◌≡◌, ℕ, true, List, [], ◌∷◌, Option, None, refl, codes}
use Prim.Native.String.{String}
use Rattle.adya_values.specs.declared.edition.Edition.TheVariants.{One, Two}
use Rattle.adya_values.specs.Meaning.Histories.{Dead, Entry, Event, Event as E, FinalPair, History, Live, Order}
use Rattle.adya_values.specs.Meaning.Events.{entry, version}
use Rattle.adya_values.specs.Meaning.Serial.{pair}
use Rattle.adya_values.specs.Computing.Certificates.{first_backward, lists_the_committed}
use Rattle.adya_values.specs.Computing.Faults.{first_fault}
use Rattle.ssi_conflict.specs.Computing.Steps.{smallest_ordered_pivot, smallest_pivot}
use Rattle.ssi_conflict.specs.Meaning.Calls.{Call}
use Rattle.ssi_store.specs.Meaning.Courses.{Answer, Answer as Say, Busy, Command, Command as Do, Course, Idle, New, Range, Spent, Then}
use Rattle.ssi_store.specs.Meaning.Recording.{dumped}
use Rattle.ssi_store.specs.Clauses.Finished.{finished}
use Rattle.ssi_store.specs.Meaning.Replies.{reply}

-- commands of a session
abbrev begin : String → Command
begin s = Do.Begin (codes s)

abbrev get : String → String → Command
get s k = Do.Get (codes s) (codes k)

abbrev put : String → String → String → Command
put s k v = Do.Put (codes s) (codes k) (codes v)

abbrev del : String → String → Command
del s k = Do.Del (codes s) (codes k)

abbrev scan : String → String → String → Command
scan s low high = Do.Scan (codes s) (codes low) (codes high)

abbrev scan_first : String → String → String → ℕ → Command
scan_first s low high limit = Do.ScanFirst (codes s) (codes low) (codes high) limit

abbrev commit : String → Command
commit s = Do.Commit (codes s)

abbrev abort : String → Command
abort s = Do.Abort (codes s)

-- answers
abbrev value : String → Answer
value v = Say.Value (codes v)

abbrev row : String → String → FinalPair
row k v = pair (codes k) (codes v)

abbrev conflict : String → ℕ → Answer
conflict k writer = Say.Conflict (codes k) writer

-- events of a transaction, and versions by key, transaction and number
abbrev writes : ℕ → String → ℕ → String → Event
writes t k m v = E.Write t (codes k) m (codes v)

abbrev deletes : ℕ → String → ℕ → Event
deletes t k m = E.Delete t (codes k) m

abbrev reads : ℕ → String → ℕ → ℕ → String → Event
reads t k u m v = E.Read t (version (codes k) u m) (codes v)

abbrev lists : ℕ → String → String → List Entry → Event
lists t low high found = E.Scan t (codes low) (codes high) found

abbrev live : String → ℕ → ℕ → String → Entry
live k u m v = entry (version (codes k) u m) (Live (codes v))

abbrev dead : String → ℕ → ℕ → Entry
dead k u m = entry (version (codes k) u m) Dead

abbrev order : String → List ℕ → Order
order k ts = record { key = codes k; writers = ts }

-- a history that is over, and a dump
abbrev history : List Event → List Order → List FinalPair → History
history events orders finals = record {
  edition = One;
  events = events;
  unfinished = [];
  orders = orders;
  finals = finals;
}

abbrev dump : List Event → List ℕ → List Order → List FinalPair → History
dump events unfinished orders finals = record {
  edition = Two;
  events = events;
  unfinished = unfinished;
  orders = orders;
  finals = finals;
}

-- the course of these commands
abbrev play : (List Call → Option ℕ) → Course → List Command → Course
play pivot c [] = c
play pivot c (m ∷ ms) = play pivot (Then c m (reply pivot c m)) ms

abbrev by_two_pairs : List Command → Course
by_two_pairs commands = play smallest_pivot (New 1) commands

abbrev by_commit_order : List Command → Course
by_commit_order commands = play smallest_ordered_pivot (New 1) commands

-- the answers of a course before these
abbrev answers_to : Course → List Answer → List Answer
answers_to (New first) done = done
answers_to (Then c m a) done = answers_to c (a ∷ done)

abbrev answers : Course → List Answer
answers c = answers_to c []

-- with a collection after each command
abbrev with_collects : List Command → List Command
with_collects [] = []
with_collects (m ∷ ms) = m ∷ Do.Collect ∷ with_collects ms

-- without the answers to collections
abbrev uncounted : List Answer → List Answer
uncounted [] = []
uncounted (Say.Kept n ∷ rest) = uncounted rest
uncounted (a ∷ rest) = a ∷ uncounted rest

-- the history has no fault, and each of its edges goes forward in the serial order
abbrev IsCertified : History → List ℕ → Type 0
IsCertified h serial = (first_fault h ≡ None) × (lists_the_committed h serial ≡ true) × (first_backward h serial ≡ None)

-- by the commit-order rule the commands have these answers, also with a collection after each of them, and this history,
-- which has this serial order
abbrev IsRun : List Command → List Answer → History → List ℕ → Type 0
IsRun commands said h serial = (answers (by_commit_order commands) ≡ said)
    × (uncounted (answers (by_commit_order (with_collects commands))) ≡ uncounted said)
    × (finished (by_commit_order commands) ≡ h) × IsCertified h serial

-- by the two-pair rule they have the same answers
abbrev IsAnsweredAlike : List Command → Type 0
IsAnsweredAlike commands = answers (by_two_pairs commands) ≡ answers (by_commit_order commands)

-- a scan shows what its transaction has written, by rising key, and an abort leaves nothing of it
abbrev abort_with_own_writes_commands : List Command
abort_with_own_writes_commands =
    begin "A" ∷ put "A" "c" "8" ∷ put "A" "b" "7" ∷ scan "A" "a" "z" ∷ abort "A" ∷ Do.Stat ∷ Do.Collect ∷ []

abort_with_own_writes : IsRun abort_with_own_writes_commands
    (Say.Begun 1 ∷ Say.Done ∷ Say.Done ∷ Say.Rows (row "b" "7" ∷ row "c" "8" ∷ []) ∷ Say.Aborted ∷
    Say.Counts 0 0 0 0 ∷ Say.Kept 0 ∷ [])
    (history
    (writes 1 "c" 1 "8" ∷ writes 1 "b" 1 "7" ∷ lists 1 "a" "z" (live "b" 1 1 "7" ∷ live "c" 1 1 "8" ∷ []) ∷
    E.Abort 1 ∷ [])
    []
    [])
    []
abort_with_own_writes = (refl, refl, refl, (refl, refl, refl))

abort_with_own_writes_alike : IsAnsweredAlike abort_with_own_writes_commands
abort_with_own_writes_alike = refl

-- the serial order may run against the order of the commits
abbrev against_commit_order_commands : List Command
against_commit_order_commands =
    begin "B" ∷ begin "A" ∷ get "A" "x" ∷ put "B" "x" "1" ∷ commit "B" ∷ commit "A" ∷ []

against_commit_order : IsRun against_commit_order_commands
    (Say.Begun 1 ∷ Say.Begun 2 ∷ Say.Absent ∷ Say.Done ∷ Say.Committed ∷ Say.Committed ∷ [])
    (history
    (lists 2 "x" "x" [] ∷ writes 1 "x" 1 "1" ∷ E.Commit 1 ∷ E.Commit 2 ∷ [])
    (order "x" (1 ∷ []) ∷ [])
    (row "x" "1" ∷ []))
    (2 ∷ 1 ∷ [])
against_commit_order = (refl, refl, refl, (refl, refl, refl))

against_commit_order_alike : IsAnsweredAlike against_commit_order_commands
against_commit_order_alike = refl

-- a collection keeps what the open snapshots see, and transactions that can still come into pairs are kept
abbrev collection_between_snapshots_commands : List Command
collection_between_snapshots_commands =
    begin "U" ∷ get "U" "y" ∷ begin "V" ∷ put "V" "y" "1" ∷ commit "V" ∷ begin "A" ∷ put "U" "x" "1" ∷
    commit "U" ∷ begin "W" ∷ put "W" "x" "2" ∷ commit "W" ∷ begin "X" ∷ Do.Collect ∷ get "A" "y" ∷ Do.Stat ∷
    get "A" "x" ∷ []

collection_between_snapshots : IsRun collection_between_snapshots_commands
    (Say.Begun 1 ∷ Say.Absent ∷ Say.Begun 2 ∷ Say.Done ∷ Say.Committed ∷ Say.Begun 3 ∷ Say.Done ∷
    Say.Committed ∷ Say.Begun 4 ∷ Say.Done ∷ Say.Committed ∷ Say.Begun 5 ∷ Say.Kept 2 ∷ value "1" ∷
    Say.Counts 2 4 2 2 ∷ Say.Unsafe 1 ∷ [])
    (history
    (lists 1 "y" "y" [] ∷ writes 2 "y" 1 "1" ∷ E.Commit 2 ∷ writes 1 "x" 1 "1" ∷ E.Commit 1 ∷
    writes 4 "x" 1 "2" ∷ E.Commit 4 ∷ reads 3 "y" 2 1 "1" ∷ E.Abort 3 ∷ E.Abort 5 ∷ [])
    (order "x" (1 ∷ 4 ∷ []) ∷ order "y" (2 ∷ []) ∷ [])
    (row "x" "2" ∷ row "y" "1" ∷ []))
    (1 ∷ 2 ∷ 4 ∷ [])
collection_between_snapshots = (refl, refl, refl, (refl, refl, refl))

collection_between_snapshots_alike : IsAnsweredAlike collection_between_snapshots_commands
collection_between_snapshots_alike = refl

-- a deleted key is absent, and its dead version is recorded
abbrev dead_keys_commands : List Command
dead_keys_commands =
    begin "A" ∷ del "A" "b" ∷ commit "A" ∷ begin "A" ∷ put "A" "b" "7" ∷ commit "A" ∷ begin "A" ∷ del "A" "b" ∷
    commit "A" ∷ begin "A" ∷ scan "A" "a" "m" ∷ get "A" "b" ∷ commit "A" ∷ []

dead_keys : IsRun dead_keys_commands
    (Say.Begun 1 ∷ Say.Done ∷ Say.Committed ∷ Say.Begun 2 ∷ Say.Done ∷ Say.Committed ∷ Say.Begun 3 ∷ Say.Done ∷
    Say.Committed ∷ Say.Begun 4 ∷ Say.Rows [] ∷ Say.Absent ∷ Say.Committed ∷ [])
    (history
    (deletes 1 "b" 1 ∷ E.Commit 1 ∷ writes 2 "b" 1 "7" ∷ E.Commit 2 ∷ deletes 3 "b" 1 ∷ E.Commit 3 ∷
    lists 4 "a" "m" (dead "b" 3 1 ∷ []) ∷ lists 4 "b" "b" (dead "b" 3 1 ∷ []) ∷ E.Commit 4 ∷ [])
    (order "b" (1 ∷ 2 ∷ 3 ∷ []) ∷ [])
    [])
    (1 ∷ 2 ∷ 3 ∷ 4 ∷ [])
dead_keys = (refl, refl, refl, (refl, refl, refl))

dead_keys_alike : IsAnsweredAlike dead_keys_commands
dead_keys_alike = refl

-- of two concurrent writers of a key the first to commit wins
abbrev first_committer_wins_commands : List Command
first_committer_wins_commands =
    begin "A" ∷ begin "B" ∷ put "A" "x" "1" ∷ put "B" "x" "2" ∷ commit "A" ∷ commit "B" ∷ get "B" "x" ∷ []

first_committer_wins : IsRun first_committer_wins_commands
    (Say.Begun 1 ∷ Say.Begun 2 ∷ Say.Done ∷ Say.Done ∷ Say.Committed ∷ conflict "x" 1 ∷ Say.Refused Idle ∷ [])
    (history
    (writes 1 "x" 1 "1" ∷ writes 2 "x" 1 "2" ∷ E.Commit 1 ∷ E.Abort 2 ∷ [])
    (order "x" (1 ∷ []) ∷ [])
    (row "x" "1" ∷ []))
    (1 ∷ [])
first_committer_wins = (refl, refl, refl, (refl, refl, refl))

first_committer_wins_alike : IsAnsweredAlike first_committer_wins_commands
first_committer_wins_alike = refl

-- a pair leads to T and a pair leads from it, but T commits before the other two: only the two-pair rule refuses that
abbrev later_committer_under_commit_order_commands : List Command
later_committer_under_commit_order_commands =
    begin "A" ∷ begin "T" ∷ begin "B" ∷ get "A" "x" ∷ get "T" "y" ∷ put "T" "x" "1" ∷ commit "T" ∷
    put "B" "y" "1" ∷ commit "B" ∷ []

later_committer_under_commit_order : IsRun later_committer_under_commit_order_commands
    (Say.Begun 1 ∷ Say.Begun 2 ∷ Say.Begun 3 ∷ Say.Absent ∷ Say.Absent ∷ Say.Done ∷ Say.Committed ∷ Say.Done ∷
    Say.Committed ∷ [])
    (history
    (lists 1 "x" "x" [] ∷ lists 2 "y" "y" [] ∷ writes 2 "x" 1 "1" ∷ E.Commit 2 ∷ writes 3 "y" 1 "1" ∷
    E.Commit 3 ∷ E.Abort 1 ∷ [])
    (order "x" (2 ∷ []) ∷ order "y" (3 ∷ []) ∷ [])
    (row "x" "1" ∷ row "y" "1" ∷ []))
    (2 ∷ 3 ∷ [])
later_committer_under_commit_order = (refl, refl, refl, (refl, refl, refl))

later_committer_under_commit_order_by_two_pairs : answers (by_two_pairs later_committer_under_commit_order_commands)
    ≡ (Say.Begun 1 ∷ Say.Begun 2 ∷ Say.Begun 3 ∷ Say.Absent ∷ Say.Absent ∷ Say.Done ∷ Say.Committed ∷ Say.Done ∷
    Say.Unsafe 2 ∷ [])
later_committer_under_commit_order_by_two_pairs = refl

-- a write of a key beyond the last row of a limited scan makes no pair with it
abbrev limited_scan_commands : List Command
limited_scan_commands =
    begin "I" ∷ put "I" "b" "1" ∷ put "I" "c" "2" ∷ put "I" "d" "3" ∷ commit "I" ∷ begin "A" ∷
    scan_first "A" "a" "m" 2 ∷ begin "B" ∷ put "B" "d" "9" ∷ commit "B" ∷ commit "A" ∷ []

limited_scan : answers (by_commit_order limited_scan_commands)
    ≡ (Say.Begun 1 ∷ Say.Done ∷ Say.Done ∷ Say.Done ∷ Say.Committed ∷ Say.Begun 2 ∷
    Say.Rows (row "b" "1" ∷ row "c" "2" ∷ []) ∷ Say.Begun 3 ∷ Say.Done ∷ Say.Committed ∷ Say.Committed ∷ [])
limited_scan = refl

limited_scan_alike : IsAnsweredAlike limited_scan_commands
limited_scan_alike = refl

-- a limited scan shows own writes, and dead keys don't count among its rows
abbrev limited_scan_of_own_writes_commands : List Command
limited_scan_of_own_writes_commands =
    begin "A" ∷ put "A" "b" "1" ∷ put "A" "c" "2" ∷ del "A" "d" ∷ scan_first "A" "a" "m" 2 ∷
    scan_first "A" "a" "m" 3 ∷ scan_first "A" "m" "a" 2 ∷ commit "A" ∷ []

limited_scan_of_own_writes : IsRun limited_scan_of_own_writes_commands
    (Say.Begun 1 ∷ Say.Done ∷ Say.Done ∷ Say.Done ∷ Say.Rows (row "b" "1" ∷ row "c" "2" ∷ []) ∷
    Say.Rows (row "b" "1" ∷ row "c" "2" ∷ []) ∷ Say.Refused Range ∷ Say.Committed ∷ [])
    (history
    (writes 1 "b" 1 "1" ∷ writes 1 "c" 1 "2" ∷ deletes 1 "d" 1 ∷
    lists 1 "a" "c" (live "b" 1 1 "1" ∷ live "c" 1 1 "2" ∷ []) ∷
    lists 1 "a" "m" (live "b" 1 1 "1" ∷ live "c" 1 1 "2" ∷ dead "d" 1 1 ∷ []) ∷ E.Commit 1 ∷ [])
    (order "b" (1 ∷ []) ∷ order "c" (1 ∷ []) ∷ order "d" (1 ∷ []) ∷ [])
    (row "b" "1" ∷ row "c" "2" ∷ []))
    (1 ∷ [])
limited_scan_of_own_writes = (refl, refl, refl, (refl, refl, refl))

limited_scan_of_own_writes_alike : IsAnsweredAlike limited_scan_of_own_writes_commands
limited_scan_of_own_writes_alike = refl

-- a transaction sees its own writes and deletes
abbrev own_writes_commands : List Command
own_writes_commands =
    begin "A" ∷ put "A" "x" "1" ∷ get "A" "x" ∷ del "A" "x" ∷ get "A" "x" ∷ scan "A" "x" "x" ∷ commit "A" ∷ []

own_writes : IsRun own_writes_commands
    (Say.Begun 1 ∷ Say.Done ∷ value "1" ∷ Say.Done ∷ Say.Absent ∷ Say.Rows [] ∷ Say.Committed ∷ [])
    (history
    (writes 1 "x" 1 "1" ∷ reads 1 "x" 1 1 "1" ∷ deletes 1 "x" 2 ∷ lists 1 "x" "x" (dead "x" 1 2 ∷ []) ∷
    lists 1 "x" "x" (dead "x" 1 2 ∷ []) ∷ E.Commit 1 ∷ [])
    (order "x" (1 ∷ []) ∷ [])
    [])
    (1 ∷ [])
own_writes = (refl, refl, refl, (refl, refl, refl))

own_writes_alike : IsAnsweredAlike own_writes_commands
own_writes_alike = refl

-- each of two scans meets the key that the other transaction puts into the range; the rules name different pivots
abbrev phantom_skew_commands : List Command
phantom_skew_commands =
    begin "A" ∷ begin "B" ∷ scan "A" "a" "m" ∷ scan "B" "a" "m" ∷ put "A" "b" "1" ∷ put "B" "c" "1" ∷
    commit "A" ∷ commit "B" ∷ []

phantom_skew : IsRun phantom_skew_commands
    (Say.Begun 1 ∷ Say.Begun 2 ∷ Say.Rows [] ∷ Say.Rows [] ∷ Say.Done ∷ Say.Done ∷ Say.Committed ∷
    Say.Unsafe 2 ∷ [])
    (history
    (lists 1 "a" "m" [] ∷ lists 2 "a" "m" [] ∷ writes 1 "b" 1 "1" ∷ writes 2 "c" 1 "1" ∷ E.Commit 1 ∷
    E.Abort 2 ∷ [])
    (order "b" (1 ∷ []) ∷ [])
    (row "b" "1" ∷ []))
    (1 ∷ [])
phantom_skew = (refl, refl, refl, (refl, refl, refl))

phantom_skew_by_two_pairs : answers (by_two_pairs phantom_skew_commands)
    ≡ (Say.Begun 1 ∷ Say.Begun 2 ∷ Say.Rows [] ∷ Say.Rows [] ∷ Say.Done ∷ Say.Done ∷ Say.Committed ∷
    Say.Unsafe 1 ∷ [])
phantom_skew_by_two_pairs = refl

-- a write skew of transactions whose numbers fall: the two-pair rule names the one that began first, and its number is the
-- greater one
abbrev falling_numbers : Course
falling_numbers =
    play smallest_ordered_pivot (Then (Then (New 2) (begin "A") (Say.Begun 2)) (begin "B") (Say.Begun 1))
    (get "A" "x" ∷ get "B" "y" ∷ put "A" "y" "1" ∷ put "B" "x" "1" ∷ commit "A" ∷ [])

falling_numbers_by_commit_order : reply smallest_ordered_pivot falling_numbers (commit "B") ≡ Say.Unsafe 1
falling_numbers_by_commit_order = refl

falling_numbers_by_two_pairs : reply smallest_pivot falling_numbers (commit "B") ≡ Say.Unsafe 2
falling_numbers_by_two_pairs = refl

-- a transaction that only reads can make a history unserializable (Fekete, O'Neil and O'Neil 2004)
abbrev read_only_anomaly_commands : List Command
read_only_anomaly_commands =
    begin "I" ∷ put "I" "x" "0" ∷ put "I" "y" "0" ∷ commit "I" ∷ begin "P" ∷ get "P" "x" ∷ get "P" "y" ∷
    begin "Q" ∷ put "Q" "y" "20" ∷ commit "Q" ∷ begin "R" ∷ get "R" "x" ∷ get "R" "y" ∷ commit "R" ∷
    put "P" "x" "-11" ∷ commit "P" ∷ []

read_only_anomaly : IsRun read_only_anomaly_commands
    (Say.Begun 1 ∷ Say.Done ∷ Say.Done ∷ Say.Committed ∷ Say.Begun 2 ∷ value "0" ∷ value "0" ∷ Say.Begun 3 ∷
    Say.Done ∷ Say.Committed ∷ Say.Begun 4 ∷ value "0" ∷ value "20" ∷ Say.Committed ∷ Say.Done ∷
    Say.Unsafe 2 ∷ [])
    (history
    (writes 1 "x" 1 "0" ∷ writes 1 "y" 1 "0" ∷ E.Commit 1 ∷ reads 2 "x" 1 1 "0" ∷ reads 2 "y" 1 1 "0" ∷
    writes 3 "y" 1 "20" ∷ E.Commit 3 ∷ reads 4 "x" 1 1 "0" ∷ reads 4 "y" 3 1 "20" ∷ E.Commit 4 ∷
    writes 2 "x" 1 "-11" ∷ E.Abort 2 ∷ [])
    (order "x" (1 ∷ []) ∷ order "y" (1 ∷ 3 ∷ []) ∷ [])
    (row "x" "0" ∷ row "y" "20" ∷ []))
    (1 ∷ 3 ∷ 4 ∷ [])
read_only_anomaly = (refl, refl, refl, (refl, refl, refl))

read_only_anomaly_alike : IsAnsweredAlike read_only_anomaly_commands
read_only_anomaly_alike = refl

-- a session with a transaction, one without, and ranges that run downward
abbrev refusals_commands : List Command
refusals_commands =
    begin "A" ∷ begin "A" ∷ get "B" "x" ∷ scan "B" "m" "a" ∷ scan "A" "m" "a" ∷ scan_first "A" "m" "a" 2 ∷ []

refusals : answers (by_commit_order refusals_commands)
    ≡ (Say.Begun 1 ∷ Say.Refused Busy ∷ Say.Refused Idle ∷ Say.Refused Idle ∷ Say.Refused Range ∷
    Say.Refused Range ∷ [])
refusals = refl

-- after the last transaction number there is no other
abbrev spent_commands : List Command
spent_commands =
    begin "A" ∷ begin "A" ∷ commit "A" ∷ begin "A" ∷ []

spent : answers (play smallest_ordered_pivot (New 4294967295) spent_commands)
    ≡ (Say.Begun 4294967295 ∷ Say.Refused Busy ∷ Say.Committed ∷ Say.Refused Spent ∷ [])
spent = refl

-- a dump before the only transaction is over
abbrev dump_of_one_commands : List Command
dump_of_one_commands =
    begin "A" ∷ put "A" "x" "5" ∷ []

dump_of_one : dumped (by_commit_order dump_of_one_commands) ≡ dump (writes 1 "x" 1 "5" ∷ []) (1 ∷ []) [] []
dump_of_one = refl

dump_of_one_certified : IsCertified (dumped (by_commit_order dump_of_one_commands)) []
dump_of_one_certified = (refl, refl, refl)

-- a dump before there is a transaction
abbrev dump_of_none_commands : List Command
dump_of_none_commands =
    []

dump_of_none : dumped (by_commit_order dump_of_none_commands) ≡ dump [] [] [] []
dump_of_none = refl

dump_of_none_certified : IsCertified (dumped (by_commit_order dump_of_none_commands)) []
dump_of_none_certified = (refl, refl, refl)

-- a limited scan gives the first rows of the state that its snapshot sees
abbrev limited_scan_in_the_same_state_commands : List Command
limited_scan_in_the_same_state_commands =
    begin "I" ∷ put "I" "b" "1" ∷ put "I" "c" "2" ∷ put "I" "d" "3" ∷ commit "I" ∷ begin "A" ∷
    scan_first "A" "a" "m" 2 ∷ begin "B" ∷ put "B" "d" "9" ∷ commit "B" ∷ commit "A" ∷ begin "A" ∷
    scan_first "A" "a" "m" 5 ∷ commit "A" ∷ []

limited_scan_in_the_same_state : IsRun limited_scan_in_the_same_state_commands
    (Say.Begun 1 ∷ Say.Done ∷ Say.Done ∷ Say.Done ∷ Say.Committed ∷ Say.Begun 2 ∷
    Say.Rows (row "b" "1" ∷ row "c" "2" ∷ []) ∷ Say.Begun 3 ∷ Say.Done ∷ Say.Committed ∷ Say.Committed ∷
    Say.Begun 4 ∷ Say.Rows (row "b" "1" ∷ row "c" "2" ∷ row "d" "9" ∷ []) ∷ Say.Committed ∷ [])
    (history
    (writes 1 "b" 1 "1" ∷ writes 1 "c" 1 "2" ∷ writes 1 "d" 1 "3" ∷ E.Commit 1 ∷
    lists 2 "a" "c" (live "b" 1 1 "1" ∷ live "c" 1 1 "2" ∷ []) ∷ writes 3 "d" 1 "9" ∷ E.Commit 3 ∷
    E.Commit 2 ∷ lists 4 "a" "m" (live "b" 1 1 "1" ∷ live "c" 1 1 "2" ∷ live "d" 3 1 "9" ∷ []) ∷ E.Commit 4 ∷
    [])
    (order "b" (1 ∷ []) ∷ order "c" (1 ∷ []) ∷ order "d" (1 ∷ 3 ∷ []) ∷ [])
    (row "b" "1" ∷ row "c" "2" ∷ row "d" "9" ∷ []))
    (1 ∷ 2 ∷ 3 ∷ 4 ∷ [])
limited_scan_in_the_same_state = (refl, refl, refl, (refl, refl, refl))
