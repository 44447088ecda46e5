-- The server and the table have gone on.
use Rattle.std.proofs.Common.{◌≡◌}
use Rattle.ssi_durable.specs.Mirror.Servers.{is_settled}
use Rattle.ssi_data.specs.Mirror.{GoOn, server_of}
use Rattle.ssi_data.proofs.clients.Clients.reply_all.Given as goal

abbrev pub invariant-loop-index : goal.invariant-loop-index
invariant-loop-index g l = record {
  on : GoOn g.T.ProtocolStore.keeps g.T.AnyStore.is_at l.initial.self l.self;
  settled : is_settled (server_of l.self) ≡ is_settled (server_of l.initial.self);
}
