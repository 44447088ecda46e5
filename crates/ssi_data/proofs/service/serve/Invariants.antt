-- The server and the table have gone on.
use Rattle.ssi_data.specs.Mirror.{GoOn}
use Rattle.ssi_data.proofs.service.serve.Given as goal

abbrev pub invariant-loop : goal.invariant-loop
invariant-loop g l =
    GoOn g.T.ProtocolStore.keeps g.T.AnyStore.is_at l.initial.clients l.clients
