-- What becomes of the sessions that have a transaction.
use Rattle.std.specs.Prelude.{Bool, ◌≡◌, ◌<◌, ℕ, true, List, [], ◌∷◌, ◌++◌, length, is_some}
use Rattle.std.specs.List.{AllByRecursion}
use Rattle.sqlite_disk.specs.declared.Disk.{Ghosts}
use Rattle.adya_keys.specs.Meaning.Keys.{Bytes}
use Rattle.ssi_store.specs.Meaning.Courses.{Course, New, txn_in}
use Rattle.ssi_hub.specs.Clauses.Calls.{Call, all_steps}
use Rattle.ssi_durable.specs.declared.server.Server.{Server}
use Rattle.ssi_durable.specs.Clauses.Serving.{Began}
use Rattle.ssi_durable.specs.Meaning.Logs.{HaveLed}
use Rattle.ssi_durable.specs.Meaning.Replays.{Replays}
use Rattle.ssi_durable.specs.Mirror.Servers.{Serves}
use Rattle.ssi_cli.specs.Clauses.Leaving.{IsAbort, abort_calls}

-- the calls since the segment has begun have led to this course, from that to which its first lines lead
pub record HasComeTo (began : Began) (calls : List Call) (course : Course) : Type 0 where
  pub since : List Call
  pub parts : calls ≡ since ++ began.before
  pub start : Course
  pub replayed : Replays (New 1) began.lines start
  pub led : HaveLed start since course

-- after these calls the session had a transaction
pub record HadTransaction (began : Began) (calls : List Call) (session : Bytes) : Type 0 where
  pub course : Course
  pub come : HasComeTo began calls course
  pub had : is_some (txn_in session course) ≡ true

-- each is the abort of a session that had a transaction when it began
abbrev pub AreAbortsOfOpen : Began → List (Bytes × List Call) → List Call → Type 0
AreAbortsOfOpen began [] before = Unit {0}
AreAbortsOfOpen began (a ∷ rest) before =
    HadTransaction began (abort_calls rest ++ before) a.0 × IsAbort a.0 a.1 (abort_calls rest ++ before)
    × AreAbortsOfOpen began rest before

-- each was made by a line that was carried out
abbrev pub AreCarriedOut : List (Bytes × List Call) → Type 0
AreCarriedOut aborts = AllByRecursion (λ a. 0 < length (all_steps a.1)) aborts

module _ {T D : Type 0} {disk : Ghosts D} (dumps : Bool) (is_at : T → Course → Type 0)
    (old new : Server T D disk) where
  -- sessions that had a transaction were aborted, and nothing else was done
  abbrev pub HasAbortedOpen : Type 0
  HasAbortedOpen = (n : ℕ) (began : Began) (calls : List Call) → Serves dumps is_at n began old calls
      → (aborts : List (Bytes × List Call)) × Serves dumps is_at n began new (abort_calls aborts ++ calls)
      × AreAbortsOfOpen began aborts calls

  -- the same, each by a line that was carried out
  abbrev pub HasCarriedOutAborts : Type 0
  HasCarriedOutAborts = (n : ℕ) (began : Began) (calls : List Call) → Serves dumps is_at n began old calls
      → (aborts : List (Bytes × List Call)) × Serves dumps is_at n began new (abort_calls aborts ++ calls)
      × AreAbortsOfOpen began aborts calls × AreCarriedOut aborts
