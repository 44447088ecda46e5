-- The lines so far were carried out, and one at least after the first; at first nothing is done. The connection had been open
-- before each.
use Rattle.std.proofs.Common.{◌≡◌, ◌<◌}
use Rattle.std.specs.Prelude.{is_some}
use Rattle.ssi_hub.specs.Mirror.{buffers_of, is_stopped}
use Rattle.ssi_durable.specs.Mirror.Servers.{hub_of}
use Rattle.ssi_cli.specs.Clauses.Turns.{MayRun}
use Rattle.ssi_data.proofs.Turning.{Carried}
use Rattle.ssi_data.proofs.turns.carry_out.Given as goal

abbrev pub invariant-loop-count : goal.invariant-loop-count
invariant-loop-count g l = record {
  none : l._count ≡ 0 → l.server ≡ l.initial.server;
  carried : Carried g.T.ProtocolStore.keeps g.T.AnyStore.is_at l.token
      (MayRun (is_stopped (hub_of l.initial.server)) (buffers_of (hub_of l.initial.server) l.token) × (0 < l._count))
      l.initial.tables l.tables l.initial.server l.server;
  table : is_some l.tables.users ≡ is_some l.initial.tables.users;
}
