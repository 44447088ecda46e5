use Rattle.ssi_data.proofs.Rounds.{stays, both}
use Rattle.ssi_data.proofs.clients.Clients.take_all.Goals as goal

pub loop-event-init : goal.loop-event-init
loop-event-init g c =
    stays g.T.ProtocolStore.keeps g.T.AnyStore.is_at c.args.self.now.tables.users c.args.self.now.server

pub loop-event-preserved : goal.loop-event-preserved
loop-event-preserved g c =
    both g.T.ProtocolStore.keeps g.T.AnyStore.is_at c.args.self.now.tables.users c.loop-event.self.tables.users c.take.new.self.tables.users
    c.args.self.now.server c.loop-event.self.server c.take.new.self.server c.loop-event.invariant c.take.ensures.on

pub returns-in_err-take-clause-on : goal.returns-in_err-take-clause-on
returns-in_err-take-clause-on g c =
    both g.T.ProtocolStore.keeps g.T.AnyStore.is_at c.args.self.now.tables.users c.loop-event.self.tables.users c.take.new.self.tables.users
    c.args.self.now.server c.loop-event.self.server c.take.new.self.server c.loop-event.invariant c.take.ensures.on

pub returns-clause-on : goal.returns-clause-on
returns-clause-on g c =
    c.loop-event.invariant
