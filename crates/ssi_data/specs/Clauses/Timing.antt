-- When sessions had their last command.
use Rattle.std.specs.Prelude.{◌≡◌, ◌⊎◌, ◌||◌, ℕ, Bool, is_some, List, Option, Some, None}
use Rattle.adya_keys.specs.Meaning.Keys.{Bytes}
use Rattle.ssi_hub.specs.Clauses.Calls.{Call}
use Rattle.ssi_cli.specs.declared.users.Users.{Users}
use Rattle.ssi_cli.specs.Meaning.Users.{last_after}
use Rattle.ssi_cli.specs.Machinery.UsersRoom.{HasRoom}
use Rattle.ssi_cli.specs.Mirror.{last_at}
use Rattle.ssi_data.specs.declared.tables.Tables.{Tables}

-- The table has seconds in the place of connections. A second that it has of a session is this one, or the one that it had
-- before; then no line of these calls was a command of the session
abbrev pub IsTimed : (second : ℕ) (old new : Option Users) → List Call → Type 0
IsTimed second old new made = (s : Bytes) (k : ℕ) → last_at new s ≡ Some k
    → (k ≡ second) ⊎ ((last_at old s ≡ Some k) × (last_after s made None ≡ None))

-- there is a table
abbrev pub is_noting : Tables → Bool
is_noting tables = is_some tables.users || is_some tables.times

-- one more session fits into the table, if there is one
abbrev pub HasRoomIn : Option Users → Type 0
HasRoomIn None = Unit {0}
HasRoomIn (Some users) = HasRoom users
