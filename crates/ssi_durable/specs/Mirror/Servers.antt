-- What clauses see of a server.
use Rattle.std.specs.Prelude.{◌≡◌, ℕ, Bool, true, false, if◌then◌else◌, List, ◌∷◌, [], ◌++◌, Option, Some, None}
use Rattle.sqlite_disk.specs.declared.Disk.{Ghosts}
use Rattle.adya_keys.specs.Meaning.Keys.{Bytes}
use Rattle.adya_line.specs.Meaning.Lines.{IsPlain}
use Rattle.ssi_store.specs.Meaning.Courses.{Course}
use Rattle.ssi_line.specs.Meaning.Steps.{Step}
use Rattle.ssi_hub.specs.declared.hub.Hub.{Hub}
use Rattle.ssi_hub.specs.declared.outcome.CarriedLine.{CarriedLine}
use Rattle.ssi_hub.specs.Clauses.Buffers.{Buffers}
use Rattle.ssi_hub.specs.Clauses.Calls.{Call, with_run}
use Rattle.ssi_hub.specs.Clauses.Outcomes.{lost_by}
use Rattle.ssi_hub.specs.Clauses.Stepping.{IsLineStep}
use Rattle.ssi_hub.specs.Mirror.{Stands, buffers_of}
use Rattle.ssi_log.specs.declared.log.Log.{Log}
use Rattle.ssi_durable.specs.declared.journal.Journal.{Journal}
use Rattle.ssi_durable.specs.declared.server.Server.{Server}
use Rattle.ssi_durable.specs.declared.holds.Holds.{Holds}
use Rattle.ssi_durable.specs.Meaning.Logs.{logged}
use Rattle.ssi_durable.specs.Clauses.Holding.{RestsOn, is_early}
use Rattle.ssi_durable.specs.Mirror.Holds.{free_in, front_by}
use Rattle.ssi_durable.specs.Clauses.Counts.{commits_with}
use Rattle.ssi_durable.specs.Clauses.Serving.{Began, HasGoneOn, IsTold}
use Rattle.ssi_durable.specs.Machinery.Noting.{noted}
use Rattle.ssi_durable.specs.Mirror.Journals.{Keeps}

-- the replies that are to be written to a connection
abbrev pub unsent_of : Option Buffers → Bytes
unsent_of None = []
unsent_of (Some b) = b.unsent

module _ {S D : Type 0} {disk : Ghosts D} where
  abbrev pub hub_of : Server S D disk → Hub
  hub_of s = s.hub

  abbrev pub store_of : Server S D disk → S
  store_of s = s.store

  abbrev pub journal_of : Server S D disk → Journal D disk
  journal_of s = s.journal

  abbrev pub log_of : Server S D disk → Log D disk
  log_of s = s.journal.log

  -- all lines that count are on the disk
  abbrev pub is_settled : Server S D disk → Bool
  is_settled s = s.journal.is_settled

  -- a call of the log has failed
  abbrev pub has_failed : Server S D disk → Bool
  has_failed s = s.journal.has_failed

  -- which replies wait, if only `committed` does
  abbrev pub holds_of : Server S D disk → Holds
  holds_of s = s.holds

  -- only `committed` waits for the disk
  abbrev pub gives_early : Server S D disk → Bool
  gives_early s = is_early s.release

  -- The replies that may be given out to a connection: by default none before all lines that count are on the disk. If only
  -- `committed` waits then those before the first that does, and none once the log has failed
  abbrev pub to_give : Server S D disk → ℕ → Bytes
  to_give s t =
      if is_early s.release
      then (if s.journal.has_failed then [] else front_by s.holds.all (free_in s.holds t) (unsent_of (buffers_of s.hub t)))
      else (if s.journal.is_settled then unsent_of (buffers_of s.hub t) else [])

  -- how many commits were carried out and not refused
  abbrev pub commits_of : Server S D disk → ℕ
  commits_of s = s.commits

  -- The server of segment n has begun it so, and its hub stands for the calls, on a store that answers dumps or doesn't. Its store has gone on from the lines of the
  -- beginning by the calls since then. Its journal has these lines and those of the calls since then that count, and a crash
  -- leaves all of the calls `sure`, on which what was written to connections since then rests
  pub record Serves (dumps : Bool) (is_at : S → Course → Type 0) (n : ℕ) (began : Began) (s : Server S D disk)
      (calls : List Call) : Type 0 where
    pub since : List Call
    pub parts : calls ≡ since ++ began.before
    pub stands : Stands dumps s.hub calls
    pub gone : HasGoneOn is_at n began.lines s.store since
    pub told : IsTold calls
    pub mode : gives_early s ≡ began.early
    pub sure : List Call
    pub rests : RestsOn began.early s.holds sure since began.before
    pub keeps : Keeps s.journal (began.lines ++ logged sure) (began.lines ++ logged since)

  -- one line of the connection was carried out: the first one that waited
  abbrev pub HasStepped : (dumps : Bool) → (S → Course → Type 0) → ℕ → Began → ℕ → List Call
      → (old new : Server S D disk) → CarriedLine → Type 0
  HasStepped dumps is_at n began t calls old new carried = (line : Bytes) × (step : Step)
      × IsLineStep dumps is_at (buffers_of old.hub t) old.store carried line step new.store
      × Serves dumps is_at n began new (with_run (lost_by carried.outcome) t (line ∷ []) (step ∷ []) calls)

  -- if a line of the connection was carried out that counts, then it is counted if it is a commit
  abbrev pub HasCounted : ℕ → Bool → (old new : Server S D disk) → Type 0
  HasCounted t false old new = new.commits ≡ old.commits
  HasCounted t true old new = (b : Buffers) (line rest : List ℕ) → buffers_of old.hub t ≡ Some b → IsPlain line
      → b.waiting ≡ line ++ (10 ∷ rest) → new.commits ≡ commits_with (noted line) old.commits
