-- What clauses see of a server, and of the sockets of its connections.
use Rattle.std.specs.Prelude.{ℕ, Bool, Option}
use Rattle.sqlite_disk.specs.declared.Disk.{Ghosts}
use Rattle.std.specs.Option.{option_map}
use Rattle.ssi_store.specs.Meaning.Courses.{Course}
use Rattle.ssi_durable.specs.declared.server.Server.{Server}
use Rattle.ssi_cli.specs.declared.users.Users.{Users}
use Rattle.ssi_data.specs.declared.clients.Clients.{Clients}
use Rattle.ssi_data.specs.declared.idle.Idle.{Idle}
use Rattle.ssi_data.specs.declared.tables.Tables.{Tables}
use Rattle.ssi_data.specs.Clauses.Rounds.{GoesOn}

-- who has used each session last, as far as that is kept
abbrev pub users_in : Tables → Option Users
users_in tables = tables.users

-- for how many seconds a session may have no command
abbrev pub seconds_of : Idle → ℕ
seconds_of idle = idle.limit

module _ {T D : Type 0} {disk : Ghosts D} where
  abbrev pub server_of : Clients T D disk → Server T D disk
  server_of clients = clients.server

  -- who has used each session last, as far as that is kept
  abbrev pub users_of : Clients T D disk → Option Users
  users_of clients = clients.tables.users

  -- in which second each session had its last command, as far as that is kept
  abbrev pub times_of : Clients T D disk → Option Users
  times_of clients = clients.tables.times

  -- the second that it was when it was looked last
  abbrev pub second_of : Clients T D disk → ℕ
  second_of clients = clients.tables.second

  -- the bound on these seconds, if there is one
  abbrev pub limit_of : Clients T D disk → Option ℕ
  limit_of clients = option_map seconds_of clients.idle

  -- a log that has more bytes is left for that of the next segment, unless its loads are more than half of it
  abbrev pub most_of : Clients T D disk → ℕ
  most_of clients = clients.most

  -- the log is left once it has more bytes
  abbrev pub due_of : Clients T D disk → ℕ
  due_of clients = clients.due

  -- in how many rounds the sync was put off that a reply waits for
  abbrev pub put_off_of : Clients T D disk → ℕ
  put_off_of clients = clients.put_off

  -- its server and its table have gone on
  abbrev pub GoOn : (dumps : Bool) → (T → Course → Type 0) → (old new : Clients T D disk) → Type 0
  GoOn dumps is_at old new = GoesOn dumps is_at (users_of old) (server_of old) (users_of new) (server_of new)
