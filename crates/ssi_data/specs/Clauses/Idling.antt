-- What becomes of the sessions that had no command for long.
use Rattle.std.specs.Prelude.{Bool, ◌≡◌, ◌<◌, ◌+◌, ℕ, List, ◌++◌, Option, Some}
use Rattle.sqlite_disk.specs.declared.Disk.{Ghosts}
use Rattle.adya_keys.specs.Meaning.Keys.{Bytes}
use Rattle.ssi_store.specs.Meaning.Courses.{Course}
use Rattle.ssi_hub.specs.Clauses.Calls.{Call}
use Rattle.ssi_durable.specs.declared.server.Server.{Server}
use Rattle.ssi_durable.specs.Clauses.Serving.{Began}
use Rattle.ssi_durable.specs.Mirror.Servers.{Serves}
use Rattle.ssi_cli.specs.declared.users.Users.{Users}
use Rattle.ssi_cli.specs.Clauses.Leaving.{AreAborts, HasNoted, abort_calls}
use Rattle.ssi_cli.specs.Mirror.{last_at}

-- by the table its last command was in a second after which more have passed than the limit, by the second that it is
pub record IsIdleSince (limit second : ℕ) (times : Option Users) (session : Bytes) : Type 0 where
  pub last : ℕ
  pub had : last_at times session ≡ Some last
  pub long : last + limit < second

module _ {T D : Type 0} {disk : Ghosts D} where
  -- sessions that may be were aborted, by connections of the server's own, and nothing else was done. The table of users has noted
  -- it
  abbrev pub HasAbortedIdle : (dumps : Bool) → (T → Course → Type 0) → (Bytes → Type 0) → (was now : Option Users)
      → (old new : Server T D disk) → Type 0
  HasAbortedIdle dumps is_at May was now old new = (n : ℕ) (began : Began) (calls : List Call) → Serves dumps is_at n began old calls
      → (aborts : List (Bytes × List Call)) × Serves dumps is_at n began new (abort_calls aborts ++ calls)
      × AreAborts May aborts calls × HasNoted was now (abort_calls aborts)
