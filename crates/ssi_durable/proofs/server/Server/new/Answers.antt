use Rattle.ssi_durable.proofs.Serving.{starts}
use Rattle.ssi_durable.proofs.server.Server.new.Goals as goal

pub returns-clause-serves : goal.returns-clause-serves
returns-clause-serves g c = λ n lines replayed all.
    starts g.S.ProtocolStore.keeps g.S.AnyStore.is_at n lines
    (record { hub = c.new.result; store = c.args.store; journal = c.in_ok-new.field-0; noted = c.in_ok-new-2.field-0; release = c.args.release; holds = c.new-4.result; commits = 0 }) replayed
    (c.new.ensures.stands g.S.ProtocolStore.keeps) c.new-4.ensures.free (c.in_ok-new.ensures.keeps lines all)
