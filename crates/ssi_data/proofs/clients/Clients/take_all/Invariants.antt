-- The server and the table have gone on.
use Rattle.ssi_data.specs.Mirror.{GoOn}
use Rattle.ssi_data.proofs.clients.Clients.take_all.Given as goal

abbrev pub invariant-loop-event : goal.invariant-loop-event
invariant-loop-event g l = GoOn g.T.ProtocolStore.keeps g.T.AnyStore.is_at l.initial.self l.self
