-- What becomes of a server that begins the next segment.
use Rattle.std.specs.Prelude.{Bool, ◌≡◌, ◌*◌, ◌-◌, ◌^◌, ℕ, List, ◌++◌, None, max, min}
use Rattle.sqlite_disk.specs.declared.Disk.{Ghosts}
use Rattle.adya_keys.specs.Meaning.Keys.{Bytes}
use Rattle.ssi_store.specs.Meaning.Contents.{contents_after}
use Rattle.ssi_store.specs.Meaning.Courses.{Course, txn_in}
use Rattle.ssi_hub.specs.Clauses.Calls.{Call}
use Rattle.ssi_durable.specs.declared.server.Server.{Server}
use Rattle.ssi_durable.specs.Clauses.Serving.{Began, begun_next}
use Rattle.ssi_durable.specs.Mirror.Servers.{Serves}
use Rattle.ssi_loads.specs.Meaning.Loads.{first_lines}
use Rattle.ssi_cli.specs.Clauses.Leaving.{abort_calls}
use Rattle.ssi_data.specs.declared.rotation.Rotation.{Rotation}
use Rattle.ssi_data.specs.declared.rotation.Rotation.TheVariants.{Begun, Kept}
use Rattle.ssi_data.specs.Clauses.Aborting.{AreAbortsOfOpen, HasAbortedOpen, HasComeTo}

-- a log with these loads is left once it has more bytes: more than `most`, and more than twice as many as the loads
abbrev pub due_len : (most loaded : ℕ) → ℕ
due_len most loaded = max most (min (loaded * 2) (2 ^ 64 - 1))

module _ {T D : Type 0} {disk : Ghosts D} (dumps : Bool) (is_at : T → Course → Type 0) (next : ℕ) where
  -- Sessions that had a transaction were aborted after these calls, and then the store had come to a course in which no session
  -- has one. The server has begun segment `next` with the lines that load what the store held then, and serves the same calls
  pub record HasMoved (began : Began) (calls : List Call) (new : Server T D disk) : Type 0 where
    pub aborts : List (Bytes × List Call)
    pub are : AreAbortsOfOpen began aborts calls
    pub course : Course
    pub come : HasComeTo began (abort_calls aborts ++ calls) course
    pub idle : (s : Bytes) → txn_in s course ≡ None
    pub serves : Serves dumps is_at next
        (begun_next began (first_lines next (contents_after course)) (abort_calls aborts ++ calls)) new
        (abort_calls aborts ++ calls)

  -- it has, or it goes on as it was, and at most sessions that had a transaction were aborted
  abbrev pub HasRotated : (old new : Server T D disk) → Rotation → Type 0
  HasRotated old new Begun = (n : ℕ) (began : Began) (calls : List Call) → Serves dumps is_at n began old calls → HasMoved began calls new
  HasRotated old new (Kept fault) = HasAbortedOpen dumps is_at old new
