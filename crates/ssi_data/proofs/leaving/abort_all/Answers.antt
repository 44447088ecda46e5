use Rattle.std.proofs.Common.{Option, sym, subst}
use Rattle.ssi_cli.specs.declared.users.Users.{Users}
use Rattle.ssi_cli.specs.Clauses.Leaving.{HasUsed}
use Rattle.ssi_data.specs.Clauses.Leaving.{HasAborted}
use Rattle.ssi_data.proofs.leaving.abort_all.Goals as goal

pub returns-in-Some-clause-aborts : goal.returns-in-Some-clause-aborts
returns-in-Some-clause-aborts g c =
    subst (λ (o : Option Users). HasAborted g.T.ProtocolStore.keeps g.T.AnyStore.is_at
    (HasUsed o c.args.token) c.args.server.now c.abort_each.new.server)
    (sym c.in-Some.is) c.abort_each.ensures.aborts
