-- When the engine of a store stands for a course: the course is one of replies, each part of the engine was told of the
-- acts of the course, and each session has the transaction that it has in the course.
use Rattle.std.specs.Prelude.{◌≡◌, ℕ, Bool, List, map, option_map, IfSome}
use Rattle.adya_keys.specs.Meaning.Keys.{Key, Bytes}
use Rattle.adya_values.specs.Meaning.Histories.{Txns, Event}
use Rattle.ssi_versions.specs.Meaning.Changes.{Held, held}
use Rattle.ssi_versions.specs.Mirror.{chain_of}
use Rattle.ssi_versions.specs.declared.chains.Chains.{Ghosts as HeldBy}
use Rattle.ssi_reads.specs.declared.marks.Marks.{Ghosts as MarkedBy}
use Rattle.ssi_conflict.specs.Meaning.Calls.{Call}
use Rattle.ssi_conflict.specs.Mirror.{Stands}
use Rattle.ssi_conflict.specs.Computing.Steps.{smallest_ordered_pivot}
use Rattle.ssi_store.specs.Meaning.Courses.{Command, Answer, Course, Then, txn_in, next_txn}
use Rattle.ssi_store.specs.Meaning.Acts.{Act, acts, begun, open_txns}
use Rattle.ssi_store.specs.Meaning.Seeing.{commit_count, snapshot, changed}
use Rattle.ssi_store.specs.Meaning.Tracked.{tracked}
use Rattle.ssi_store.specs.Clauses.Following.{Follows}
use Rattle.ssi_store.specs.Meaning.Recording.{events}
use Rattle.ssi_store.specs.Machinery.Opens.{Sessions, open_at, number_of, IsOpen}
use Rattle.ssi_store.specs.Mirror.Rosters.{open_in}
use Rattle.ssi_store.specs.declared.past.Past.{Ghosts as KeptBy}
use Rattle.ssi_store.specs.declared.engine.Engine.{Engine}

-- each of these transactions with its snapshot
abbrev pub with_snapshots : Txns → List Act → List (ℕ × ℕ)
with_snapshots ts log = map (λ t. (t, snapshot t log)) ts

-- what is seen of the parts of an engine
pub record Parts : Type 1 where
  -- the held versions
  pub holds : List Held
  -- the lists of calls that the tracker stands for
  pub told : List Call → Type 0
  -- the lists of events that may have been recorded
  pub recorded : List Event → Type 0
  pub commits : ℕ
  -- the open transactions with their snapshots
  pub opened : List (ℕ × ℕ)
  -- the lists of all transactions with their snapshots that may have been kept
  pub started : List (ℕ × ℕ) → Type 0

-- each part was told of these acts
pub record IsLog (p : Parts) (log : List Act) : Type 0 where
  pub commits : p.commits ≡ commit_count log
  pub chains : (k : Key) → chain_of k p.holds ≡ held k (changed log)
  pub tracker : p.told (tracked log)
  pub events : p.recorded (events log)
  pub opened : p.opened ≡ with_snapshots (open_txns log) log
  pub snapshots : p.started (with_snapshots (begun log) log)

-- parts, the next transaction number and sessions stand for the course
pub record StandsFor (p : Parts) (next : ℕ) (es : Sessions) (c : Course) : Type 0 where
  -- each answer of the course is the reply to its command, by the commit-order rule, or that memory ran out
  pub follows : Follows smallest_ordered_pivot c
  pub log : IsLog p (acts c)
  pub next_is : next ≡ next_txn c
  -- each session has the transaction that it has in the course
  pub txns : (s : Bytes) → option_map number_of (open_at s es) ≡ txn_in s c
  pub views : (s : Bytes) → IfSome (open_at s es) (IsOpen (acts c))

module _ {C M P : Type 0} {g : HeldBy C} {h : MarkedBy M} {k : KeptBy P} (holds : C → List Held) (marked : M → ℕ → Key → Bool)
    (recorded : P → List Event → Type 0) (started : P → List (ℕ × ℕ) → Type 0) where
  abbrev pub parts_of : Engine C M P g h k → Parts
  parts_of s = record {
    holds = holds s.chains;
    told = Stands marked s.tracker;
    recorded = recorded s.past;
    commits = s.commits;
    opened = open_in s.roster;
    started = started s.past;
  }

  -- the engine stands for the course
  abbrev pub IsAt : Engine C M P g h k → Course → Type 0
  IsAt s c = StandsFor (parts_of s) s.next s.sessions.entries c

  -- whatever course the old engine stood for, the new one stands for it with this answer to this command
  abbrev pub GoesOn : Engine C M P g h k → Engine C M P g h k → Command → Answer → Type 0
  GoesOn old new command answer = (c : Course) → IsAt old c → IsAt new (Then c command answer)

  -- the engine stands for some course
  abbrev pub HasCourse : Engine C M P g h k → Type 0
  HasCourse s = ∥ ((c : Course) × IsAt s c) ∥₁
