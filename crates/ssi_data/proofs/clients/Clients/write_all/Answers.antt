use Rattle.std.proofs.Common.{◌∙◌, refl}
use Rattle.ssi_data.proofs.Rounds.{stays, both}
use Rattle.ssi_data.proofs.clients.Clients.write_all.Goals as goal

pub loop-index-init : goal.loop-index-init
loop-index-init g c =
    record {
      on = stays g.T.ProtocolStore.keeps g.T.AnyStore.is_at c.args.self.now.tables.users c.args.self.now.server;
      stopped = refl;
      settled = refl;
    }

pub loop-index-preserved : goal.loop-index-preserved
loop-index-preserved g c =
    record {
      on =
          both g.T.ProtocolStore.keeps g.T.AnyStore.is_at c.args.self.now.tables.users c.loop-index.self.tables.users c.write_at.new.self.tables.users
          c.args.self.now.server c.loop-index.self.server c.write_at.new.self.server c.loop-index.invariant.on c.write_at.ensures.on;
      stopped = c.write_at.ensures.stopped ∙ c.loop-index.invariant.stopped;
      settled = c.write_at.ensures.settled ∙ c.loop-index.invariant.settled;
    }

pub returns-clause-on : goal.returns-clause-on
returns-clause-on g c =
    c.loop-index.invariant.on

pub returns-clause-settled : goal.returns-clause-settled
returns-clause-settled g c =
    c.loop-index.invariant.settled

pub returns-clause-stopped : goal.returns-clause-stopped
returns-clause-stopped g c =
    c.loop-index.invariant.stopped
