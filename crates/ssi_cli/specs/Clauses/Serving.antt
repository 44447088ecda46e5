-- What is promised of connections that are served together.
use Rattle.std.specs.Prelude.{◌≡◌, Bool, true, false, List}
use Rattle.ssi_hub.specs.declared.hub.Hub.{Hub}
use Rattle.ssi_hub.specs.Clauses.Calls.{Call}
use Rattle.ssi_hub.specs.Mirror.{is_stopped, Stands}
use Rattle.ssi_cli.specs.declared.socket.Served.{Served}
use Rattle.ssi_cli.specs.declared.socket.Served.TheVariants.{Stopped, SocketFault}
use Rattle.ssi_cli.specs.declared.together.AtClose.{AtClose}
use Rattle.ssi_cli.specs.declared.together.AtClose.TheVariants.{Keep, Abort}

-- whether the sessions are aborted whose last user is gone
abbrev pub aborts : AtClose → Bool
aborts Keep = false
aborts Abort = true

-- it was `stop` that ended them
abbrev pub ends_by_stop : Served → Bool
ends_by_stop Stopped = true
ends_by_stop SocketFault = false

-- a hub stands for these calls: each line that a connection sent was carried out at most once and in order, and what was
-- written to it are the replies to its lines. The run was stopped, or wasn't
pub record Together (stopped : Bool) : Type 0 where
  pub hub : Hub
  pub calls : List Call
  pub stands : Stands true hub calls
  pub ends : is_stopped hub ≡ stopped
