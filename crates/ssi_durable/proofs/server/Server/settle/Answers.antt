use Rattle.std.proofs.Common.{refl}
use Rattle.ssi_durable.proofs.Serving.{settled}
use Rattle.ssi_durable.proofs.server.Server.settle.Goals as goal

pub returns-clause-serves : goal.returns-clause-serves
returns-clause-serves g c = λ n began calls was.
    let self = c.args.self.now in
    let now = record self { journal = c.settle.new.self; holds = c.clear.new.self } in
    settled g.S.ProtocolStore.keeps g.S.AnyStore.is_at n began self now calls was refl refl refl c.clear.ensures.free
    c.settle.ensures.keeps (c.settled_lines_are_sure.ensures c.in_ok-settle.ensures.settled)
