use Rattle.ssi_data.proofs.Rounds.{stays, both}
use Rattle.ssi_data.proofs.clients.Clients.accept.Goals as goal

pub loop-init : goal.loop-init
loop-init g c =
    stays g.T.ProtocolStore.keeps g.T.AnyStore.is_at c.args.self.now.tables.users c.args.self.now.server

pub loop-preserved : goal.loop-preserved
loop-preserved g c =
    both g.T.ProtocolStore.keeps g.T.AnyStore.is_at c.args.self.now.tables.users c.loop.self.tables.users c.add.new.self.tables.users
    c.args.self.now.server c.loop.self.server c.add.new.self.server c.loop.invariant c.add.ensures

pub returns : goal.returns
returns g c =
    c.loop.invariant

pub returns-in_default : goal.returns-in_default
returns-in_default g c =
    c.loop.invariant
