-- What a server stands for.
use Rattle.std.specs.Prelude.{◌≡◌, ℕ, Bool, List, [], ◌++◌}
use Rattle.adya_keys.specs.Meaning.Keys.{Bytes}
use Rattle.ssi_store.specs.Meaning.Courses.{Course, New}
use Rattle.ssi_line.specs.Meaning.Steps.{steps_text}
use Rattle.ssi_hub.specs.Clauses.Calls.{Call, steps_of, written_to}
use Rattle.ssi_durable.specs.Meaning.Lines.{HasHeader}
use Rattle.ssi_durable.specs.Meaning.Replays.{Replays}
use Rattle.ssi_durable.specs.Meaning.Logs.{told, HaveLed}

-- What a server has begun the segment with: the lines that the segment had then, and the calls of the connections before that,
-- the newest first. Of all replies only `committed` waits for the disk if it is so early
pub record Began : Type 0 where
  pub early : Bool
  pub lines : List Bytes
  pub before : List Call

-- with these lines and no call
abbrev pub from_start : Bool → List Bytes → Began
from_start early lines = record { early = early; lines = lines; before = [] }

-- the next segment, with these lines and after these calls
abbrev pub begun_next : Began → List Bytes → List Call → Began
begun_next began lines calls = record { early = began.early; lines = lines; before = calls }

-- The store of segment n has started with these lines and gone on by the calls: it stands for the course to which they have led.
-- Each step may follow the lines before it that count
pub record HasGoneOn {T : Type 0} (is_at : T → Course → Type 0) (n : ℕ) (lines : List Bytes) (store : T) (calls : List Call)
    : Type 0 where
  pub has_header : HasHeader n lines
  pub start : Course
  pub replayed : Replays (New 1) lines start
  pub end : Course
  pub led : HaveLed start calls end
  pub at : is_at store end

-- what was written to each connection is a front of the replies to its lines up to the last call that wrote something
abbrev pub IsTold : List Call → Type 0
IsTold calls = (t : ℕ) → (unsent : Bytes) × (steps_text (steps_of t (told calls)) ≡ written_to t calls ++ unsent)
