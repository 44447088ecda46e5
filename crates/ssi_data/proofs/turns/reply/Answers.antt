use Rattle.ssi_cli.specs.Mirror.{stream_of}
use Rattle.ssi_data.proofs.Turning.{replied, replied_broken, same_error}
use Rattle.ssi_data.proofs.turns.reply.Goals as goal

pub returns-in_err-send-clause-replied : goal.returns-in_err-send-clause-replied
returns-in_err-send-clause-replied g c =
    replied_broken g.T.ProtocolStore.keeps g.T.AnyStore.is_at c.args.token {S = g.row.S.Denot}
    {A = Unit {0}} g.S.Read.remaining g.S.Write.contents (stream_of c.args.peer.now) (stream_of c.send.new.peer)
    (stream_of c.send.new.peer) c.from_residual.result c.in_err-send.field-0.0 c.args.server.now c.send.new.server
    (same_error c.from_residual.result c.in_err-send.field-0.0 c.from_residual.ensures.1) c.in_err-send.ensures.broken

pub returns-clause-replied : goal.returns-clause-replied
returns-clause-replied g c =
    replied g.T.ProtocolStore.keeps g.T.AnyStore.is_at c.args.token {S = g.row.S.Denot}
    {A = Unit {0}} g.S.Read.remaining g.S.Write.contents (stream_of c.args.peer.now) (stream_of c.send.new.peer)
    (stream_of c.end_if_done.new.peer) c.end_if_done.result c.args.server.now c.send.new.server c.end_if_done.new.server _
    c.end_if_done.ensures.stream c.in_ok-send.ensures.written c.end_if_done.ensures.open c.end_if_done.ensures.finished
