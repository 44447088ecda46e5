-- What holds of every course, or of every course whose answers are the replies, by either rule.
use Rattle.std.specs.Prelude.{◌≡◌, ℕ, ◌≤◌, Bool, true, false, List, [], ◌∷◌, take, Option, Some, None, ◌↔◌, ◌<◌, if◌then◌else◌, filter, length, map}
use Rattle.ssi_conflict.specs.Meaning.Kept.{open_count}
use Rattle.adya_values.specs.Meaning.Events.{listed}
use Rattle.adya_keys.specs.Meaning.Keys.{Key, Bytes, key_le, keys_rise, lies_in}
use Rattle.adya_values.specs.Meaning.Histories.{Entry}
use Rattle.adya_values.specs.Computing.Shapes.{numbers_rise}
use Rattle.ssi_conflict.specs.Meaning.Calls.{Call}
use Rattle.ssi_conflict.specs.Clauses.Allowed.{AreAllowed}
use Rattle.ssi_conflict.specs.Clauses.Pairs.{IsPivot, IsOrderedPivot, IsSmallest}
use Rattle.ssi_conflict.specs.Computing.Steps.{smallest_pivot, smallest_ordered_pivot}
use Rattle.ssi_versions.specs.Meaning.Changes.{contents, held}
use Rattle.ssi_versions.specs.Clauses.ByStamp.{newest_within}
use Rattle.ssi_versions.specs.Clauses.Conditions.{AreInstallable, IsProtected}
use Rattle.ssi_store.specs.Meaning.Courses.{Command, Get, Scan, ScanFirst, Commit, Collect, Stat, Course, Unsafe, txn_for, txn_in, next_txn}
use Rattle.ssi_snapshot.specs.Meaning.Reached.{reached}
use Rattle.ssi_store.specs.Meaning.Acts.{Act, Begins, Gets, Scans, Commits, Collects, acts, is_open, has_begun, begun, open_txns}
use Rattle.ssi_store.specs.Meaning.Seeing.{snapshot, changed, sees, scanned}
use Rattle.ssi_store.specs.Meaning.Contents.{contents_after}
use Rattle.ssi_store.specs.Meaning.Tracked.{tracked}
use Rattle.ssi_store.specs.Meaning.Replies.{rows, reply_in, reply, is_overtaken, conflict}
use Rattle.ssi_store.specs.Clauses.Following.{Follows}
use Rattle.ssi_store.specs.Meaning.Recording.{dumped}
use Rattle.ssi_store.specs.Clauses.Finished.{finished}
use Rattle.ssi_store.specs.Meaning.Faces.{Records, RecordsSoFar}
use Rattle.ssi_store.specs.Clauses.Coverage.{IsCovered}

-- by the two-pair rule, when the course is over
abbrev pub FinishedAreCovered : Type 0
FinishedAreCovered = (c : Course) → Follows smallest_pivot c → IsCovered IsPivot c (finished c)

-- by the commit-order rule, when the course is over
abbrev pub OrderedFinishedAreCovered : Type 0
OrderedFinishedAreCovered = (c : Course) → Follows smallest_ordered_pivot c → IsCovered IsOrderedPivot c (finished c)

-- by the two-pair rule, before the course is over
abbrev pub DumpedAreCovered : Type 0
DumpedAreCovered = (c : Course) → Follows smallest_pivot c → IsCovered IsPivot c (dumped c)

-- by the commit-order rule, before the course is over
abbrev pub OrderedDumpedAreCovered : Type 0
OrderedDumpedAreCovered = (c : Course) → Follows smallest_ordered_pivot c → IsCovered IsOrderedPivot c (dumped c)

-- by whatever rule, the finished history records the course
abbrev pub FinishedRecord : Type 0
FinishedRecord = (pivot : List Call → Option ℕ) (c : Course) → Follows pivot c → Records (finished c) c

-- and the history so far records it so far
abbrev pub DumpedRecord : Type 0
DumpedRecord = (pivot : List Call → Option ℕ) (c : Course) → Follows pivot c → RecordsSoFar (dumped c) c

-- the store keeps to the conditions of the tracker and of the store of versions
abbrev pub CallsAreAllowed : Type 0
CallsAreAllowed = (pivot : List Call → Option ℕ) (c : Course) → Follows pivot c
    → AreAllowed (tracked (acts c)) × AreInstallable (changed (acts c))

-- no collection left out the snapshot of an open transaction, so what that sees is held
pub record IsStillSeen (t : ℕ) (c : Course) : Type 0 where
  pub protected : IsProtected (snapshot t (acts c)) (changed (acts c))
  pub is_held : (k : Key) → newest_within (snapshot t (acts c)) (held k (changed (acts c))) ≡ contents k
      (snapshot t (acts c)) (changed (acts c))

-- what an open transaction sees is held, whatever was collected
abbrev pub OpenSnapshotsAreHeld : Type 0
OpenSnapshotsAreHeld = (pivot : List Call → Option ℕ) (c : Course) → Follows pivot c → (t : ℕ)
    → is_open t (acts c) ≡ true → IsStillSeen t c

-- after any course, whatever was answered in it, what the commit-order rule answers Unsafe the two-pair rule does too;
-- and with the same pivot or a smaller one, if the numbers of the transactions rise in the order in which they began
abbrev pub OrderedRefusesNoMore : Type 0
OrderedRefusesNoMore = (c : Course) (command : Command) (p : ℕ) → reply smallest_ordered_pivot c command ≡ Unsafe p
    → (q : ℕ) × (reply smallest_pivot c command ≡ Unsafe q) × (numbers_rise (begun (acts c)) ≡ true → q ≤ p)

-- the log without its collections
abbrev pub uncollected : List Act → List Act
uncollected [] = []
uncollected (Collects ∷ log) = uncollected log
uncollected (a ∷ log) = a ∷ uncollected log

-- collect and stat
abbrev pub is_count : Command → Bool
is_count Collect = true
is_count Stat = true
is_count command = false

-- what was collected changes no reply but those of collect and stat
abbrev pub CollectionsChangeNoReply : Type 0
CollectionsChangeNoReply = (pivot : List Call → Option ℕ) (t : ℕ) (log : List Act) (command : Command)
    → is_count command ≡ false
    → reply_in pivot t (uncollected log) command ≡ reply_in pivot t log command

-- the act that a command is judged by before it is done: a read or a commit
abbrev pub judged : ℕ → List Act → Command → Option Act
judged t log (Get s k) = Some (Gets t k)
judged t log (Scan s low high) = Some (Scans t low high)
judged t log (ScanFirst s low high n) = Some (Scans t low (reached high n (take n (rows t low high log))))
judged t log (Commit s) = Some (Commits t)
judged t log command = None

-- p is the smallest of the pivots that would stand if the command were carried out
pub record WouldStand (IsStanding : ℕ → List Call → Type 0) (c : Course) (command : Command) (p : ℕ) : Type 0 where
  pub txn : ℕ
  pub act : Act
  pub opened : txn_for command c ≡ Some txn
  pub judges : judged txn (acts c) command ≡ Some act
  pub smallest : IsSmallest IsStanding (tracked (act ∷ acts c)) (Some p)

-- Unsafe names the smallest pivot that would stand
abbrev pub UnsafeNamesSmallest : Type 0
UnsafeNamesSmallest = (c : Course) → Follows smallest_pivot c → (command : Command) (p : ℕ)
    → reply smallest_pivot c command ≡ Unsafe p → WouldStand IsPivot c command p

-- likewise by the commit-order rule
abbrev pub OrderedUnsafeNamesSmallest : Type 0
OrderedUnsafeNamesSmallest = (c : Course) → Follows smallest_ordered_pivot c → (command : Command) (p : ℕ)
    → reply smallest_ordered_pivot c command ≡ Unsafe p → WouldStand IsOrderedPivot c command p

-- the transactions of a course and its sessions
pub record AreInOrder (c : Course) : Type 0 where
  -- a session's transaction is open
  pub opened : (s : Bytes) (t : ℕ) → txn_in s c ≡ Some t → is_open t (acts c) ≡ true
  -- each open transaction is a session's
  pub held : (t : ℕ) → is_open t (acts c) ≡ true → (s : Bytes) × (txn_in s c ≡ Some t)
  -- and of one session alone
  pub apart : (r s : Bytes) (t : ℕ) → txn_in r c ≡ Some t → txn_in s c ≡ Some t → r ≡ s
  -- numbers rise, and the next one is above all
  pub rising : numbers_rise (begun (acts c)) ≡ true
  pub below : (t : ℕ) → has_begun t (acts c) ≡ true → t < next_txn c

-- by whatever rule, sessions and transactions are in order
abbrev pub SessionsAreInOrder : Type 0
SessionsAreInOrder = (pivot : List Call → Option ℕ) (c : Course) → Follows pivot c → AreInOrder c

-- after each command no pivot stands, by the two-pair rule
abbrev pub NoPivotStands : Type 0
NoPivotStands = (c : Course) → Follows smallest_pivot c → smallest_pivot (tracked (acts c)) ≡ None

-- likewise by the commit-order rule
abbrev pub NoOrderedPivotStands : Type 0
NoOrderedPivotStands = (c : Course) → Follows smallest_ordered_pivot c
    → smallest_ordered_pivot (tracked (acts c)) ≡ None

-- the smallest overtaken key of the transaction, or nothing if no key is overtaken
abbrev pub IsLeastOvertaken : ℕ → List Act → Option Key → Type 0
IsLeastOvertaken t log None = (k : Key) → is_overtaken t log k ≡ false
IsLeastOvertaken t log (Some k) =
    (is_overtaken t log k ≡ true) × ((j : Key) → is_overtaken t log j ≡ true → key_le k j ≡ true)

-- the conflict is that key, and no other answer is right
abbrev pub ConflictIsLeast : Type 0
ConflictIsLeast = (t : ℕ) (log : List Act) (found : Option Key)
    → (conflict t log ≡ found) ↔ IsLeastOvertaken t log found

-- what a scan lists: of each key of the range what is seen of it, by rising key
pub record ListsSeen (t : ℕ) (low high : Key) (log : List Act) (found : List Entry) : Type 0 where
  pub rising : keys_rise (map (λ w. w.version.key) found) ≡ true
  pub each : (k : Key) → listed k found ≡ (if lies_in low high k then sees t k log else None)

-- it lists exactly that
abbrev pub ScansListSeen : Type 0
ScansListSeen = (t : ℕ) (low high : Key) (log : List Act) → ListsSeen t low high log (scanned t low high log)

-- the tracker counts the open transactions of a log
abbrev pub OpenAreCounted : Type 0
OpenAreCounted = (log : List Act) → open_count (tracked log) ≡ length (open_txns log)

-- by whatever rule, the finals of a course's histories are what the store holds, whether or not the course is over
abbrev pub FinalsAreContents : Type 0
FinalsAreContents = (pivot : List Call → Option ℕ) (c : Course) → Follows pivot c
    → ((finished c).finals ≡ contents_after c) × ((dumped c).finals ≡ contents_after c)

-- a transaction that begins now sees of a range the rows that the store holds of it
abbrev pub NewTxnsSeeContents : Type 0
NewTxnsSeeContents = (pivot : List Call → Option ℕ) (c : Course) → Follows pivot c → (t : ℕ) → has_begun t (acts c) ≡ false
    → (low high : Key) → rows t low high (Begins t ∷ acts c) ≡ filter (λ f. lies_in low high f.key) (contents_after c)
