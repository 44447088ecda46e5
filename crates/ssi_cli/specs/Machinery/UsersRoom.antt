-- The room of a table of the users of sessions.
use Rattle.std.specs.Prelude.{◌<◌}
use Rattle.indexmap.specs.IndexMap.{spare}
use Rattle.ssi_cli.specs.declared.users.Users.{Users}

-- one more session fits
abbrev pub HasRoom : Users → Type 0
HasRoom users = 0 < spare users.last
