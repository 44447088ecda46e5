-- The server and the table have gone on.
use Rattle.ssi_data.specs.Mirror.{GoOn}
use Rattle.ssi_data.proofs.clients.Clients.end_all.Given as goal

abbrev pub invariant-loop-index : goal.invariant-loop-index
invariant-loop-index g l = GoOn g.T.ProtocolStore.keeps g.T.AnyStore.is_at l.initial.self l.self
