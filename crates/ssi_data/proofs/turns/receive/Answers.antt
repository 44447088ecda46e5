use Rattle.std.proofs.Common.{◌<◌, [], length, take, ℕ, refl, sym, subst, pos_of_ne-zero, length-take-le, inl, inr}
use Rattle.ssi_hub.specs.Clauses.Calls.{Received, Closed}
use Rattle.ssi_cli.specs.declared.closing.Closing.TheVariants.{Memory}
use Rattle.ssi_cli.specs.Clauses.Turns.{Exchanged}
use Rattle.ssi_cli.specs.Mirror.{stream_of}
use Rattle.ssi_data.specs.Clauses.Turns.{IsDropped}
use Rattle.ssi_data.proofs.Makings.{open_by, makes_none, made_if_ok, made_if_err, none_exchanged, nothing_exchanged, exchanged_received, exchanged_dropped, ended_if_none}
use Rattle.ssi_data.proofs.turns.receive.Goals as goal

pub returns-clause-received : goal.returns-clause-received
returns-clause-received g c =
    let bytes = take c.read-count.result c.read-count.new.room in
    let dumps = g.T.ProtocolStore.keeps in
    let is_at = g.T.AnyStore.is_at in
    made_if_ok dumps is_at c.hand_on.result c.args.server.now c.hand_on.new.server (Received c.args.token bytes) (Closed c.args.token)
    (λ _ made. Exchanged {S = g.row.S.Denot} g.S.Read.remaining g.S.Write.contents c.args.token
    (stream_of c.args.peer.now) (stream_of c.read-count.new.self) made [])
    c.hand_on.ensures.serves
    (open_by dumps is_at _ c.args.server.now c.args.token c.wants_read.result c.wants_read.ensures c.if-not-wants_read.false) refl
    (λ calls. exchanged_received {S = g.row.S.Denot} g.S.Read.remaining g.S.Write.contents c.args.token
    (stream_of c.args.peer.now) (stream_of c.read-count.new.self) bytes c.read-count.ensures.bytes
    c.read-count.ensures.written)

pub returns-clause-dropped : goal.returns-clause-dropped
returns-clause-dropped g c =
    let bytes = take c.read-count.result c.read-count.new.room in
    let some : 0 < length bytes =
    subst (λ (n : ℕ). 0 < n) (sym (length-take-le c.read-count.result c.read-count.new.room c.read-count.ensures.bound))
    (pos_of_ne-zero c.if-count-eq0.false) in
    let dumps = g.T.ProtocolStore.keeps in
    let is_at = g.T.AnyStore.is_at in
    made_if_err dumps is_at c.hand_on.result Memory c.args.server.now c.hand_on.new.server (Received c.args.token bytes)
    (Closed c.args.token)
    (λ _ made. IsDropped {S = g.row.S.Denot} g.S.Read.remaining g.S.Write.contents c.args.token
    (stream_of c.args.peer.now) (stream_of c.read-count.new.self) made)
    c.hand_on.ensures.serves
    (open_by dumps is_at _ c.args.server.now c.args.token c.wants_read.result c.wants_read.ensures c.if-not-wants_read.false) refl
    c.hand_on.ensures.memory
    (λ calls. record {
      closed = refl;
      dropped = bytes;
      some = some;
      exchanged = exchanged_dropped {S = g.row.S.Denot} g.S.Read.remaining g.S.Write.contents c.args.token
          (stream_of c.args.peer.now) (stream_of c.read-count.new.self) bytes c.read-count.ensures.bytes
          c.read-count.ensures.written;
    })

pub returns-then-count-eq0-clause-reads : goal.returns-then-count-eq0-clause-reads
returns-then-count-eq0-clause-reads g c = λ steady may more.
    inl (ended_if_none c.read-count.result c.if-count-eq0.true (c.read-count.ensures.steady steady).1)

pub returns-clause-reads : goal.returns-clause-reads
returns-clause-reads g c = λ steady may more.
    let bytes = take c.read-count.result c.read-count.new.room in
    let some : 0 < length bytes =
    subst (λ (n : ℕ). 0 < n) (sym (length-take-le c.read-count.result c.read-count.new.room c.read-count.ensures.bound))
    (pos_of_ne-zero c.if-count-eq0.false) in
    inr (bytes, some, c.read-count.ensures.bytes)

pub returns-then-not-is_readable-clause-received : goal.returns-then-not-is_readable-clause-received
returns-then-not-is_readable-clause-received g c =
    makes_none g.T.ProtocolStore.keeps g.T.AnyStore.is_at c.args.server.now
    (λ _ made. Exchanged {S = g.row.S.Denot} g.S.Read.remaining g.S.Write.contents c.args.token
    (stream_of c.args.peer.now) (stream_of c.args.peer.now) made [])
    (λ calls. none_exchanged {S = g.row.S.Denot} g.S.Read.remaining g.S.Write.contents c.args.token (stream_of c.args.peer.now))

pub returns-then-count-eq0-clause-received : goal.returns-then-count-eq0-clause-received
returns-then-count-eq0-clause-received g c =
    makes_none g.T.ProtocolStore.keeps g.T.AnyStore.is_at c.args.server.now
    (λ _ made. Exchanged {S = g.row.S.Denot} g.S.Read.remaining g.S.Write.contents c.args.token
    (stream_of c.args.peer.now) (stream_of c.read-count.new.self) made [])
    (λ calls. nothing_exchanged {S = g.row.S.Denot} g.S.Read.remaining g.S.Write.contents c.args.token
    (stream_of c.args.peer.now) (stream_of c.read-count.new.self) c.read-count.result c.read-count.new.room
    c.if-count-eq0.true c.read-count.ensures.bytes c.read-count.ensures.written)
