use Rattle.std.proofs.Common.{◌∙◌, refl}
use Rattle.ssi_data.proofs.Rounds.{stays, both}
use Rattle.ssi_data.proofs.clients.Clients.reply_all.Goals as goal

pub loop-index-init : goal.loop-index-init
loop-index-init g c =
    record {
      on = stays g.T.ProtocolStore.keeps g.T.AnyStore.is_at c.args.self.now.tables.users c.args.self.now.server;
      settled = refl;
    }

pub loop-index-preserved : goal.loop-index-preserved
loop-index-preserved g c =
    record {
      on =
          both g.T.ProtocolStore.keeps g.T.AnyStore.is_at c.args.self.now.tables.users c.loop-index.self.tables.users c.reply_at.new.self.tables.users
          c.args.self.now.server c.loop-index.self.server c.reply_at.new.self.server c.loop-index.invariant.on c.reply_at.ensures.on;
      settled = c.reply_at.ensures.settled ∙ c.loop-index.invariant.settled;
    }

pub returns-clause-on : goal.returns-clause-on
returns-clause-on g c =
    c.loop-index.invariant.on

pub returns-clause-settled : goal.returns-clause-settled
returns-clause-settled g c =
    c.loop-index.invariant.settled
