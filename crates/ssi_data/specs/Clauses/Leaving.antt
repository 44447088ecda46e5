-- What becomes of the sessions of a connection that is closed.
use Rattle.std.specs.Prelude.{◌<◌, ℕ, Bool, List, ◌++◌, length, IsTrue, Result, IfOk}
use Rattle.sqlite_disk.specs.declared.Disk.{Ghosts}
use Rattle.adya_keys.specs.Meaning.Keys.{Bytes}
use Rattle.ssi_store.specs.Meaning.Courses.{Course}
use Rattle.ssi_hub.specs.Clauses.Calls.{Call, all_steps}
use Rattle.ssi_durable.specs.declared.server.Server.{Server}
use Rattle.ssi_durable.specs.Clauses.Serving.{Began}
use Rattle.ssi_durable.specs.Mirror.Servers.{Serves}
use Rattle.ssi_cli.specs.Clauses.Leaving.{AreAborts, IsAbort, abort_calls}

-- the session was aborted by these calls, or nothing was carried out; if the result says so, then the line was carried out
pub record HasTried {E : Type 0} (session : Bytes) (result : Result Bool E) (calls made : List Call) : Type 0 where
  pub abort : IsAbort session made calls
  pub done : IfOk result (λ done. IsTrue done → 0 < length (all_steps made))

module _ {T D : Type 0} {disk : Ghosts D} where
  -- sessions that may be were aborted, and nothing else was done
  abbrev pub HasAborted : (dumps : Bool) → (T → Course → Type 0) → (Bytes → Type 0) → (old new : Server T D disk) → Type 0
  HasAborted dumps is_at May old new = (n : ℕ) (began : Began) (calls : List Call) → Serves dumps is_at n began old calls
      → (aborts : List (Bytes × List Call)) × Serves dumps is_at n began new (abort_calls aborts ++ calls)
      × AreAborts May aborts calls
