use Rattle.ssi_data.proofs.Rounds.{quietly_either}
use Rattle.ssi_data.proofs.clients.Clients.write_at.Goals as goal

pub returns-clause-on : goal.returns-clause-on
returns-clause-on g c =
    quietly_either g.T.ProtocolStore.keeps g.T.AnyStore.is_at {A = Unit {0}}
    c.calls_are_deeds.ensures.done c.calls_are_deeds.ensures.quiet c.send.result c.args.self.now.tables.users c.args.self.now.server
    c.send.new.server _ _ _ c.send.ensures.written c.send.ensures.broken
