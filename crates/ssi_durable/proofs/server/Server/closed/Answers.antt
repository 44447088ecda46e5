use Rattle.std.proofs.Common.{refl}
use Rattle.ssi_hub.specs.Clauses.Calls.{Closed, with_call}
use Rattle.ssi_durable.proofs.Serving.{closed_is_quiet, quiet}
use Rattle.ssi_durable.proofs.server.Server.closed.Goals as goal

pub returns-clause-serves : goal.returns-clause-serves
returns-clause-serves g c = λ n began calls was.
    quiet g.S.ProtocolStore.keeps g.S.AnyStore.is_at n began c.args.self.now (record c.args.self.now { hub = c.closed.new.self }) calls
    (with_call (Closed c.args.token) calls) (closed_is_quiet c.args.token calls) was (c.closed.ensures.stands g.S.ProtocolStore.keeps calls was.stands) refl
    refl refl was.keeps
