use Rattle.std.proofs.Common.{◌++◌, sym, subst}
use Rattle.ssi_durable.specs.Mirror.Servers.{Serves}
use Rattle.ssi_data.proofs.Rounds.{by_noted, unseen}
use Rattle.ssi_data.proofs.clients.Clients.tidy.Goals as goal

pub returns-clause-on : goal.returns-clause-on
returns-clause-on g c =
    unseen g.T.ProtocolStore.keeps g.T.AnyStore.is_at c.args.self.now.tables.users c.tidy-done.new.tables.users c.unless_full.new.self.tables.users
    c.args.self.now.server c.tidy-done.new.server c.unless_full.new.self.server c.unless_full.ensures.users
    c.unless_full.ensures.server
    (by_noted g.T.ProtocolStore.keeps g.T.AnyStore.is_at c.calls_are_deeds.ensures.done c.args.self.now.tables.users
    c.tidy-done.new.tables.users c.args.self.now.server c.tidy-done.new.server _ c.tidy-done.ensures.table c.tidy-done.ensures.tidied)

pub returns-clause-tidied : goal.returns-clause-tidied
returns-clause-tidied g c = λ n began calls was.
    let (made, serves, (is, noted)) = c.tidy-done.ensures.tidied n began calls was in (
      made,
      subst (λ (s : _). Serves g.T.ProtocolStore.keeps g.T.AnyStore.is_at n began s (made ++ calls)) (sym c.unless_full.ensures.server)
          serves,
      is,
    )
