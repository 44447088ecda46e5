use Rattle.ssi_data.proofs.Rounds.{stays, both}
use Rattle.ssi_data.proofs.clients.Clients.end_all.Goals as goal

pub loop-index-init : goal.loop-index-init
loop-index-init g c =
    stays g.T.ProtocolStore.keeps g.T.AnyStore.is_at c.args.self.now.tables.users c.args.self.now.server

pub loop-index-preserved : goal.loop-index-preserved
loop-index-preserved g c =
    both g.T.ProtocolStore.keeps g.T.AnyStore.is_at c.args.self.now.tables.users c.loop-index.self.tables.users c.end_at.new.self.tables.users
    c.args.self.now.server c.loop-index.self.server c.end_at.new.self.server c.loop-index.invariant c.end_at.ensures.on

pub returns-in_err-end_at-clause-on : goal.returns-in_err-end_at-clause-on
returns-in_err-end_at-clause-on g c =
    both g.T.ProtocolStore.keeps g.T.AnyStore.is_at c.args.self.now.tables.users c.loop-index.self.tables.users c.end_at.new.self.tables.users
    c.args.self.now.server c.loop-index.self.server c.end_at.new.self.server c.loop-index.invariant c.end_at.ensures.on

pub returns-clause-on : goal.returns-clause-on
returns-clause-on g c =
    c.loop-index.invariant
