-- How the service of all connections halts.
use Rattle.std.specs.Prelude.{◌≡◌, true}
use Rattle.sqlite_disk.specs.declared.Disk.{Ghosts}
use Rattle.ssi_hub.specs.Mirror.{is_stopped}
use Rattle.ssi_durable.specs.declared.server.Server.{Server}
use Rattle.ssi_durable.specs.Mirror.Servers.{hub_of, is_settled, has_failed}
use Rattle.ssi_data.specs.declared.halt.Halt.{Halt}
use Rattle.ssi_data.specs.declared.halt.Halt.TheVariants as for

module _ {T D : Type 0} {disk : Ghosts D} where
  -- after `stop` all lines that count are on the disk; after a failure of the log nothing more is given out
  abbrev pub HasHalted : Halt → Server T D disk → Type 0
  HasHalted for.Stopped server = (is_stopped (hub_of server) ≡ true) × (is_settled server ≡ true)
  HasHalted (for.Failed fault) server = has_failed server ≡ true
  HasHalted (for.Full why) server = Unit {0}
  HasHalted for.Rotate server = Unit {0}
  HasHalted for.SocketFault server = Unit {0}
