use Rattle.std.proofs.Common.{◌∷◌, refl}
use Rattle.ssi_hub.specs.Clauses.Calls.{Opened}
use Rattle.ssi_durable.proofs.Serving.{opened_is_quiet, same_is_quiet, quiet, match_by}
use Rattle.ssi_durable.proofs.server.Server.opened.Goals as goal

pub returns-clause-serves : goal.returns-clause-serves
returns-clause-serves g c = λ n began calls was.
    let now = record c.args.self.now { hub = c.opened.new.self } in
    match_by c.opened.result
    (λ t stands. quiet g.S.ProtocolStore.keeps g.S.AnyStore.is_at n began c.args.self.now now calls (Opened t ∷ calls)
    (opened_is_quiet t calls) was stands refl refl refl was.keeps)
    (λ e stands. quiet g.S.ProtocolStore.keeps g.S.AnyStore.is_at n began c.args.self.now now calls calls (same_is_quiet calls) was
    stands refl refl refl was.keeps)
    (c.opened.ensures.stands g.S.ProtocolStore.keeps calls was.stands)
