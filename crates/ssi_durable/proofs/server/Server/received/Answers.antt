use Rattle.std.proofs.Common.{refl}
use Rattle.ssi_hub.specs.Clauses.Calls.{Received, with_call}
use Rattle.ssi_durable.proofs.Serving.{received_is_quiet, same_is_quiet, quiet, match_by}
use Rattle.ssi_durable.proofs.server.Server.received.Goals as goal

pub returns-clause-serves : goal.returns-clause-serves
returns-clause-serves g c = λ n began calls was.
    let now = record c.args.self.now { hub = c.received.new.self } in
    match_by c.received.result
    (λ x stands. quiet g.S.ProtocolStore.keeps g.S.AnyStore.is_at n began c.args.self.now now calls
    (with_call (Received c.args.token c.args.bytes.now) calls) (received_is_quiet c.args.token c.args.bytes.now calls) was stands
    refl refl refl was.keeps)
    (λ e stands. quiet g.S.ProtocolStore.keeps g.S.AnyStore.is_at n began c.args.self.now now calls calls (same_is_quiet calls) was
    stands refl refl refl was.keeps)
    (c.received.ensures.stands g.S.ProtocolStore.keeps calls was.stands)
