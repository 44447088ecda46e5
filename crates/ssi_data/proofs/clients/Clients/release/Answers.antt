use Rattle.ssi_data.proofs.Rounds.{then_on}
use Rattle.ssi_data.proofs.clients.Clients.release.Goals as goal

pub returns-clause-on : goal.returns-clause-on
returns-clause-on g c =
    then_on g.T.ProtocolStore.keeps g.T.AnyStore.is_at c.args.self.now c.write_early.new.self c.settle-done.new.self c.write_early.ensures.on
    c.settle-done.ensures.on
