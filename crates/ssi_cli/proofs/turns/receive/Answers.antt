use Rattle.std.proofs.Common.{◌≡◌, ◌<◌, List, [], ◌∷◌, length, take, ℕ, refl, sym, subst, pos_of_ne-zero, length-take-le, inl, inr}
use Rattle.ssi_hub.specs.Clauses.Calls.{Received, Closed}
use Rattle.ssi_hub.specs.Mirror.{buffers_of, is_stopped}
use Rattle.ssi_cli.specs.declared.closing.Closing.TheVariants.{Memory}
use Rattle.ssi_cli.specs.Clauses.Turns.{Exchanged}
use Rattle.ssi_cli.specs.Mirror.{stream_of}
use Rattle.ssi_cli.proofs.Makings.{open_by, made_if_ok, made_if_err, exchanged_received, exchanged_dropped, ended_if_none, cant_read}
use Rattle.ssi_cli.proofs.turns.receive.Goals as goal

pub returns-clause-received : goal.returns-clause-received
returns-clause-received g c =
    let bytes = take c.read-count.result c.read-count.new.room in
    made_if_ok c.hand_on.result c.args.hub.now c.hand_on.new.hub (Received c.args.token bytes) (Closed c.args.token)
    (λ _ made. Exchanged {S = g.row.S.Denot} g.S.Read.remaining g.S.Write.contents c.args.token
    (stream_of c.args.peer.now) (stream_of c.read-count.new.self) made [])
    c.hand_on.ensures.stands
    (open_by _ c.args.hub.now c.args.token c.wants_read.result c.wants_read.ensures c.if-not-wants_read.false) refl
    (λ calls. exchanged_received {S = g.row.S.Denot} g.S.Read.remaining g.S.Write.contents c.args.token
    (stream_of c.args.peer.now) (stream_of c.read-count.new.self) bytes c.read-count.ensures.bytes
    c.read-count.ensures.written)

pub returns-clause-dropped : goal.returns-clause-dropped
returns-clause-dropped g c =
    let bytes = take c.read-count.result c.read-count.new.room in
    let some : 0 < length bytes =
    subst (λ (n : ℕ). 0 < n) (sym (length-take-le c.read-count.result c.read-count.new.room c.read-count.ensures.bound))
    (pos_of_ne-zero c.if-count-eq0.false) in
    made_if_err c.hand_on.result Memory c.args.hub.now c.hand_on.new.hub (Received c.args.token bytes) (Closed c.args.token)
    (λ _ made. (made ≡ Closed c.args.token ∷ []) × ((dropped : List ℕ) × (0 < length dropped)
    × Exchanged {S = g.row.S.Denot} g.S.Read.remaining g.S.Write.contents c.args.token
    (stream_of c.args.peer.now) (stream_of c.read-count.new.self) [] dropped))
    c.hand_on.ensures.stands
    (open_by _ c.args.hub.now c.args.token c.wants_read.result c.wants_read.ensures c.if-not-wants_read.false) refl
    c.hand_on.ensures.memory
    (λ calls. (
      refl,
      (
        bytes,
        some,
        exchanged_dropped {S = g.row.S.Denot} g.S.Read.remaining g.S.Write.contents c.args.token
            (stream_of c.args.peer.now) (stream_of c.read-count.new.self) bytes c.read-count.ensures.bytes
            c.read-count.ensures.written,
      ),
    ))

pub returns-then-count-eq0-clause-reads : goal.returns-then-count-eq0-clause-reads
returns-then-count-eq0-clause-reads g c = λ steady may more.
    inl (ended_if_none c.read-count.result c.if-count-eq0.true (c.read-count.ensures.steady steady).1)

pub returns-clause-reads : goal.returns-clause-reads
returns-clause-reads g c = λ steady may more.
    let bytes = take c.read-count.result c.read-count.new.room in
    let some : 0 < length bytes =
    subst (λ (n : ℕ). 0 < n) (sym (length-take-le c.read-count.result c.read-count.new.room c.read-count.ensures.bound))
    (pos_of_ne-zero c.if-count-eq0.false) in
    inr (bytes, some, c.read-count.ensures.bytes)

pub returns-then-count-eq0-clause-idle : goal.returns-then-count-eq0-clause-idle
returns-then-count-eq0-clause-idle g c = λ may.
    absurd (cant_read (is_stopped c.args.hub.now) (buffers_of c.args.hub.now c.args.token) c.wants_read.result
    c.wants_read.ensures c.if-not-wants_read.false may)

pub returns-clause-idle : goal.returns-clause-idle
returns-clause-idle g c = λ may.
    absurd (cant_read (is_stopped c.args.hub.now) (buffers_of c.args.hub.now c.args.token) c.wants_read.result
    c.wants_read.ensures c.if-not-wants_read.false may)
