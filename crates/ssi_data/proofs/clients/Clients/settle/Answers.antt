use Rattle.ssi_data.proofs.Rounds.{same_calls}
use Rattle.ssi_data.proofs.clients.Clients.settle.Goals as goal

pub returns-clause-on : goal.returns-clause-on
returns-clause-on g c =
    same_calls g.T.ProtocolStore.keeps g.T.AnyStore.is_at c.calls_are_deeds.ensures.done
    c.calls_are_deeds.ensures.quiet c.args.self.now.tables.users c.args.self.now.server c.settle.new.self
    c.settle.ensures.serves
