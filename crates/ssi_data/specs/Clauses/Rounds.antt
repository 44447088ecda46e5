-- How a server and the table of users go on.
use Rattle.std.specs.Prelude.{Bool, ℕ, List, ◌++◌, Option}
use Rattle.sqlite_disk.specs.declared.Disk.{Ghosts}
use Rattle.ssi_store.specs.Meaning.Courses.{Course}
use Rattle.ssi_durable.specs.declared.server.Server.{Server}
use Rattle.ssi_durable.specs.Clauses.Serving.{Began}
use Rattle.ssi_durable.specs.Mirror.Servers.{Serves, hub_of}
use Rattle.ssi_cli.specs.declared.users.Users.{Users}
use Rattle.ssi_cli.specs.Meaning.Users.{Deed, calls_in}
use Rattle.ssi_cli.specs.Clauses.Turns.{AreDone}
use Rattle.ssi_data.specs.Clauses.Calls.{ServesOn}

module _ {T D : Type 0} {disk : Ghosts D} (dumps : Bool) (is_at : T → Course → Type 0) where
  -- The server of segment n has begun it so, and served the calls of these deeds. Each abort is of a session whose
  -- last user is gone, and without a table there is none; whom the table has as the last user of a session, that is the last
  -- user
  pub record HasDone (n : ℕ) (began : Began) (users : Option Users) (server : Server T D disk) (deeds : List Deed)
      : Type 0 where
    pub serves : Serves dumps is_at n began server (calls_in deeds)
    pub done : AreDone dumps users (hub_of server) deeds

  -- Whatever the server has begun with, and whatever calls it served, it serves these with more. Whatever deeds were done, more are
  -- done
  pub record GoesOn (was : Option Users) (old : Server T D disk) (now : Option Users) (new : Server T D disk)
      : Type 0 where
    pub serves : ServesOn dumps is_at old new
    pub deeds : (n : ℕ) (began : Began) (deeds : List Deed) → HasDone n began was old deeds
        → (more : List Deed) × HasDone n began now new (more ++ deeds)
