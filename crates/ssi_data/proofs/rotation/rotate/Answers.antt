use Rattle.ssi_data.proofs.Rotating.{keeps, moves}
use Rattle.ssi_data.proofs.rotation.rotate.Goals as goal

pub returns-in-Ok-false-clause-rotated : goal.returns-in-Ok-false-clause-rotated
returns-in-Ok-false-clause-rotated g c = λ at.
    keeps g.T.ProtocolStore.keeps g.T.AnyStore.is_at c.args.number c.args.clients.now.server
    c.abort_open.new.self.server c.put_off.new.clients.server c.put_off.result _ c.put_off.ensures.result
    c.put_off.ensures.server c.abort_open.ensures.aborts

pub returns-in-Err-Full-clause-rotated : goal.returns-in-Err-Full-clause-rotated
returns-in-Err-Full-clause-rotated g c = λ at.
    keeps g.T.ProtocolStore.keeps g.T.AnyStore.is_at c.args.number c.args.clients.now.server
    c.abort_open.new.self.server c.put_off-in-Err-Full.new.clients.server c.put_off-in-Err-Full.result _
    c.put_off-in-Err-Full.ensures.result c.put_off-in-Err-Full.ensures.server c.abort_open.ensures.aborts

pub returns-in_ok-publish-in-Ok-clause-rotated : goal.returns-in_ok-publish-in-Ok-clause-rotated
returns-in_ok-publish-in-Ok-clause-rotated g c = λ at.
    moves g.T.ProtocolStore.keeps g.T.AnyStore.is_at c.args.number c.args.clients.now.server
    c.abort_open.new.self.server c.server.result.now c.begin.new.self.server c.in-Ok.next.store c.in-Ok.next.log
    c.server.ensures c.abort_open.ensures.aborts (c.in-Ok-true.ensures.idle c.in-Ok-true.field-0-test) (c.in-Ok.ensures at) c.begin.ensures.serves

pub returns-in-Err-next_segment-clause-rotated : goal.returns-in-Err-next_segment-clause-rotated
returns-in-Err-next_segment-clause-rotated g c = λ at.
    keeps g.T.ProtocolStore.keeps g.T.AnyStore.is_at c.args.number c.args.clients.now.server
    c.abort_open.new.self.server c.put_off-in-Err-next_segment.new.clients.server c.put_off-in-Err-next_segment.result _
    c.put_off-in-Err-next_segment.ensures.result c.put_off-in-Err-next_segment.ensures.server c.abort_open.ensures.aborts
