use Rattle.std.proofs.Common.{true, refl, subst}
use Rattle.ssi_hub.specs.Clauses.Calls.{Closed}
use Rattle.ssi_cli.specs.Clauses.Parting.{HasParted}
use Rattle.ssi_cli.specs.Clauses.Turns.{Makes}
use Rattle.ssi_cli.specs.Mirror.{stream_of}
use Rattle.ssi_cli.proofs.AtStop.{ends_by, parts}
use Rattle.ssi_cli.proofs.HubRuns.{called_both, called_with}
use Rattle.ssi_cli.proofs.parting.part.Goals as goal

pub returns-then-unsent-clause-parted : goal.returns-then-unsent-clause-parted
returns-then-unsent-clause-parted g c = λ there.
    subst (λ b. Makes c.args.hub.now c.closed.new.self (HasParted {S = g.row.S.Denot} g.S.Read.remaining g.S.Write.contents c.args.token
    (stream_of c.args.peer.now) (stream_of c.send.new.peer) (ends_by b))) c.if-unsent.true
    (parts {S = g.row.S.Denot} g.S.Read.remaining g.S.Write.contents c.args.token (stream_of c.args.peer.now)
    (stream_of c.send.new.peer) c.args.hub.now c.send.new.hub c.closed.new.self c.wants_write-unsent.result there
    c.in_default.ensures.written c.wants_write-unsent.ensures (c.closed.ensures.stands true))

pub returns-clause-parted : goal.returns-clause-parted
returns-clause-parted g c = λ there.
    subst (λ b. Makes c.args.hub.now c.closed.new.self (HasParted {S = g.row.S.Denot} g.S.Read.remaining g.S.Write.contents c.args.token
    (stream_of c.args.peer.now) (stream_of c.send.new.peer) (ends_by b))) c.if-unsent.false
    (parts {S = g.row.S.Denot} g.S.Read.remaining g.S.Write.contents c.args.token (stream_of c.args.peer.now)
    (stream_of c.send.new.peer) c.args.hub.now c.send.new.hub c.closed.new.self c.wants_write-unsent.result there
    c.in_default.ensures.written c.wants_write-unsent.ensures (c.closed.ensures.stands true))

pub returns-then-unsent-clause-called : goal.returns-then-unsent-clause-called
returns-then-unsent-clause-called g c =
    called_both c.args.hub.now c.send.new.hub c.closed.new.self c.in_default.ensures.called
    (called_with c.send.new.hub c.closed.new.self (Closed c.args.token) (λ calls. refl) c.closed.ensures.closed.stopped
    (c.closed.ensures.stands true))

pub returns-clause-called : goal.returns-clause-called
returns-clause-called g c =
    called_both c.args.hub.now c.send.new.hub c.closed.new.self c.in_default.ensures.called
    (called_with c.send.new.hub c.closed.new.self (Closed c.args.token) (λ calls. refl) c.closed.ensures.closed.stopped
    (c.closed.ensures.stands true))
