use Rattle.ssi_data.proofs.Rounds.{same_calls, opens, opens_and_closes}
use Rattle.ssi_data.proofs.clients.Clients.add.Goals as goal

pub returns-in_default : goal.returns-in_default
returns-in_default g c =
    same_calls g.T.ProtocolStore.keeps g.T.AnyStore.is_at
    c.calls_are_deeds.ensures.done c.calls_are_deeds.ensures.quiet c.args.self.now.tables.users c.args.self.now.server
    c.opened.new.self c.in_default.ensures.serves

pub returns-then-not-add : goal.returns-then-not-add
returns-then-not-add g c =
    opens_and_closes g.T.ProtocolStore.keeps g.T.AnyStore.is_at
    c.calls_are_deeds.ensures.done c.calls_are_deeds.ensures.quiet c.in-Ok.token c.args.self.now.tables.users c.args.self.now.server
    c.opened.new.self c.closed.new.self c.in-Ok.ensures.serves c.closed.ensures.serves

pub returns-else-not-add : goal.returns-else-not-add
returns-else-not-add g c =
    opens g.T.ProtocolStore.keeps g.T.AnyStore.is_at
    c.calls_are_deeds.ensures.done c.calls_are_deeds.ensures.quiet c.in-Ok.token c.args.self.now.tables.users c.args.self.now.server
    c.opened.new.self c.in-Ok.ensures.serves
