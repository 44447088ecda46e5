-- The answer to each command, by all that was before. `pivot` names the pivot that stands after a list of calls, if one
-- does: `smallest_pivot` by the two-pair rule (Cahill, Röhm and Fekete 2008), `smallest_ordered_pivot` by the
-- commit-order rule (Ports and Grittner 2012, section 3.3).
use Rattle.std.specs.Prelude.{◌≡◌, ◌⊎◌, ℕ, Bool, true, false, ◌&&◌, nat_lt, nat_le, if◌then◌else◌, List, ◌∷◌, take, Option, Some, None}
use Rattle.std.specs.List.{find}
use Rattle.adya_keys.specs.Meaning.Keys.{Key, Bytes, key_lt}
use Rattle.adya_values.specs.Meaning.Histories.{FinalPair}
use Rattle.adya_values.specs.Meaning.Events.{shown}
use Rattle.adya_values.specs.Meaning.Serial.{visible_pairs}
use Rattle.ssi_conflict.specs.Meaning.Calls.{Call}
use Rattle.ssi_conflict.specs.Meaning.Kept.{kept_count, open_count}
use Rattle.ssi_versions.specs.Meaning.Changes.{Held, last_version, is_installed_above, held_count, key_count}
use Rattle.ssi_store.specs.Meaning.Courses.{Command, Command as Do, Busy, Idle, Range, Long, Spent, Memory, Answer, Begun, Value, Absent, Done, Rows, Committed, Aborted, Conflict, Unsafe, Kept, Counts, Refused, Course, txn_for, next_txn}
use Rattle.ssi_snapshot.specs.Meaning.Reached.{reached}
use Rattle.ssi_store.specs.Meaning.Acts.{Act, Gets, Scans, Commits, Collects, acts, operations}
use Rattle.ssi_store.specs.Meaning.Seeing.{snapshot, wrote, sees, keys, scanned, changed}
use Rattle.ssi_store.specs.Meaning.Tracked.{tracked}

-- t wrote the key, and a version of it was committed after t began; the first committer wins
abbrev pub is_overtaken : ℕ → List Act → Key → Bool
is_overtaken t log k = wrote t k log && is_installed_above k (snapshot t log) (changed log)

-- the smallest such key
abbrev pub conflict : ℕ → List Act → Option Key
conflict t log = find (is_overtaken t log) (keys log)

-- whose version it is, 0 if there is none
abbrev pub writer_in : Option Held → ℕ
writer_in None = 0
writer_in (Some h) = h.entry.version.txn

abbrev pub last_writer : Key → List Act → ℕ
last_writer k log = writer_in (last_version k (changed log))

-- the answer to a get
abbrev pub got : Option Bytes → Answer
got None = Absent
got (Some v) = Value v

abbrev pub rows : ℕ → Key → Key → List Act → List FinalPair
rows t low high log = visible_pairs (scanned t low high log)

abbrev pub unless_pivot : Option ℕ → Answer → Answer
unless_pivot None answer = answer
unless_pivot (Some p) answer = Unsafe p

abbrev pub unless_conflict : Option Key → List Act → Answer → Answer
unless_conflict None log answer = answer
unless_conflict (Some k) log answer = Conflict k (last_writer k log)

-- a transaction may do 65535 operations, so that each of its modifications has a number
abbrev pub unless_long : ℕ → List Act → Answer → Answer
unless_long t log answer = if nat_le 65535 (operations t log) then Refused Long else answer

abbrev pub unless_downward : Key → Key → Answer → Answer
unless_downward low high answer = if key_lt high low then Refused Range else answer

-- a scan that looks at the range and finds these rows
abbrev pub scan_answer : (List Call → Option ℕ) → ℕ → List Act → Key → Key → List FinalPair → Answer
scan_answer pivot t log low high found = unless_pivot (pivot (tracked (Scans t low high ∷ log))) (Rows found)

abbrev pub kept_answer : List Act → Answer
kept_answer log = Kept (held_count (changed (Collects ∷ log)))

abbrev pub counts_answer : List Act → Answer
counts_answer log = Counts (open_count (tracked log)) (kept_count (tracked log)) (held_count (changed log))
    (key_count (changed log))

-- of a session whose transaction is t
abbrev pub reply_in : (List Call → Option ℕ) → ℕ → List Act → Command → Answer
reply_in pivot t log (Do.Begin s) = Refused Busy
reply_in pivot t log (Do.Get s k) = unless_long t log
    (unless_pivot (pivot (tracked (Gets t k ∷ log))) (got (shown (sees t k log))))
reply_in pivot t log (Do.Put s k v) = unless_long t log Done
reply_in pivot t log (Do.Del s k) = unless_long t log Done
reply_in pivot t log (Do.Scan s low high) = unless_downward low high
    (unless_long t log (scan_answer pivot t log low high (rows t low high log)))
reply_in pivot t log (Do.ScanFirst s low high n) =
    unless_downward low high (unless_long t log
    (scan_answer pivot t log low (reached high n (take n (rows t low high log))) (take n (rows t low high log))))
reply_in pivot t log (Do.Commit s) = unless_conflict (conflict t log) log
    (unless_pivot (pivot (tracked (Commits t ∷ log))) Committed)
reply_in pivot t log (Do.Abort s) = Aborted
reply_in pivot t log Do.Collect = kept_answer log
reply_in pivot t log Do.Stat = counts_answer log

-- of a session without a transaction, or of no session; the greatest transaction number is 4294967295
abbrev pub reply_idle : Course → Command → Answer
reply_idle c (Do.Begin s) = if nat_lt 4294967295 (next_txn c) then Refused Spent else Begun (next_txn c)
reply_idle c Do.Collect = kept_answer (acts c)
reply_idle c Do.Stat = counts_answer (acts c)
reply_idle c _ = Refused Idle

abbrev pub reply_for : (List Call → Option ℕ) → Option ℕ → Course → Command → Answer
reply_for pivot None c command = reply_idle c command
reply_for pivot (Some t) c command = reply_in pivot t (acts c) command

abbrev pub reply : (List Call → Option ℕ) → Course → Command → Answer
reply pivot c command = reply_for pivot (txn_for command c) c command

-- running out of memory may take the place of any reply that is no refusal, except to abort, collect and stat
abbrev pub may_run_out_of_memory : Command → Answer → Bool
may_run_out_of_memory (Do.Abort s) answer = false
may_run_out_of_memory Do.Collect answer = false
may_run_out_of_memory Do.Stat answer = false
may_run_out_of_memory command (Refused r) = false
may_run_out_of_memory command answer = true

-- the answer is the reply, or that memory ran out if no other refusal applies
abbrev pub IsAnswer : (List Call → Option ℕ) → Course → Command → Answer → Type 0
IsAnswer pivot c command answer =
    (answer ≡ reply pivot c command) ⊎
    ((answer ≡ Refused Memory) × (may_run_out_of_memory command (reply pivot c command) ≡ true))
