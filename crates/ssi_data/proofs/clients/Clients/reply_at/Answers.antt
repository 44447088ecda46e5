use Rattle.ssi_data.proofs.Rounds.{quietly}
use Rattle.ssi_data.proofs.clients.Clients.reply_at.Goals as goal

pub returns-then-not-is_open-clause-on : goal.returns-then-not-is_open-clause-on
returns-then-not-is_open-clause-on g c =
    quietly g.T.ProtocolStore.keeps g.T.AnyStore.is_at
    c.calls_are_deeds.ensures.done c.calls_are_deeds.ensures.quiet c.args.self.now.tables.users c.args.self.now.server
    c.reply.new.server _ c.reply.ensures.replied

pub returns-else-not-is_open-clause-on : goal.returns-else-not-is_open-clause-on
returns-else-not-is_open-clause-on g c =
    quietly g.T.ProtocolStore.keeps g.T.AnyStore.is_at
    c.calls_are_deeds.ensures.done c.calls_are_deeds.ensures.quiet c.args.self.now.tables.users c.args.self.now.server
    c.reply.new.server _ c.reply.ensures.replied
