-- What clauses see of a connection's stream, and of who has used each session last.
use Rattle.std.specs.Prelude.{ℕ, Bool, nat_eq, List, Option, Some, None}
use Rattle.std.specs.Map.{lookup}
use Rattle.std.specs.Cmp.Lexicographic.{pointwise}
use Rattle.ssi_cli.specs.declared.peer.Peer.{Peer}
use Rattle.ssi_cli.specs.declared.peer.Input.{Input}
use Rattle.ssi_cli.specs.declared.peers.Peers.{Peers}
use Rattle.ssi_cli.specs.declared.users.Users.{Users}

abbrev pub stream_of : {S : Type 0} → Peer S → S
stream_of p = p.stream

-- whether the client still sends
abbrev pub input_of : {S : Type 0} → Peer S → Input
input_of p = p.input

-- whether a read may find something, as far as the system has said
abbrev pub may_read : {S : Type 0} → Peer S → Bool
may_read p = p.readable

-- whether it has a turn now
abbrev pub is_due : {S : Type 0} → Peer S → Bool
is_due p = p.due

-- whether a connection has more to do at once, as far as the turns of this round have ended
abbrev pub is_busy : Peers → Bool
is_busy p = p.is_busy

-- the connection that the table has as the last user of the session
abbrev pub last_in : Users → List ℕ → Option ℕ
last_in users s = lookup (pointwise nat_eq s) users.last.entries

-- the same; nobody is without a table
abbrev pub last_at : Option Users → List ℕ → Option ℕ
last_at None s = None
last_at (Some users) s = last_in users s
