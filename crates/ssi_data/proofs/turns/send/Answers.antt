use Rattle.std.proofs.Common.{◌≡◌, ◌<◌, ◌∙◌, ℕ, List, [], length, refl, sym, ap, subst, pos_of_ne-zero, length-drop, arith}
use Rattle.ssi_cli.specs.Clauses.Turns.{Exchanged}
use Rattle.ssi_cli.specs.Mirror.{stream_of}
use Rattle.ssi_durable.specs.Mirror.Servers.{to_give}
use Rattle.ssi_data.proofs.Makings.{none_exchanged, makes_none, sends, stays, breaks, some_bytes}
use Rattle.ssi_data.proofs.turns.send.Goals as goal

pub loop-count-init : goal.loop-count-init
loop-count-init g c =
    let dumps = g.T.ProtocolStore.keeps in
    let is_at = g.T.AnyStore.is_at in record {
      makes = makes_none dumps is_at c.args.server.now (λ _ made. Exchanged {S = g.row.S.Denot} g.S.Read.remaining g.S.Write.contents
          c.args.token (stream_of c.args.peer.now) (stream_of c.args.peer.now) made [])
          (λ calls. none_exchanged {S = g.row.S.Denot} g.S.Read.remaining g.S.Write.contents c.args.token
          (stream_of c.args.peer.now));
      stopped = refl;
      settled = refl;
      input = refl;
      steady = λ e. e;
      apart = refl;
      counted = ap (λ (l : List ℕ). length l) c.to_write-left.ensures;
      fewer = λ e. omega (arith, c.to_write-left.type_inv.0);
    }

pub returns-in-Later-clause-written : goal.returns-in-Later-clause-written
returns-in-Later-clause-written g c =
    stays g.T.ProtocolStore.keeps g.T.AnyStore.is_at {S = g.row.S.Denot} g.S.Read.remaining
    g.S.Write.contents c.args.token (stream_of c.args.peer.now) (stream_of c.loop-count.peer) (stream_of c.write.new.self)
    c.args.server.now c.loop-count.server c.loop-count.invariant.makes c.write.ensures.read c.in-Later.ensures.bytes

pub returns-in-Never-clause-broken : goal.returns-in-Never-clause-broken
returns-in-Never-clause-broken g c =
    let dumps = g.T.ProtocolStore.keeps in
    let is_at = g.T.AnyStore.is_at in
    let out = c.to_write.ensures in
    let some : 0 < length c.to_write.result.now =
    subst (λ (n : ℕ). 0 < n) (c.loop-count.invariant.counted ∙ sym (ap (λ (l : List ℕ). length l) out))
    (pos_of_ne-zero c.if-left-eq0.false) in (
      refl,
      breaks dumps is_at {S = g.row.S.Denot} g.S.Read.remaining g.S.Write.contents c.args.token (stream_of c.args.peer.now)
          (stream_of c.loop-count.peer) (stream_of c.write.new.self) c.args.server.now c.loop-count.server c.closed.new.self
          c.to_write.result.now out some c.loop-count.invariant.makes c.write.ensures.read c.in-Never.ensures.bytes
          c.closed.ensures.serves,
    )

pub loop-count-preserved : goal.loop-count-preserved
loop-count-preserved g c =
    let dumps = g.T.ProtocolStore.keeps in
    let is_at = g.T.AnyStore.is_at in
    let out = c.to_write.ensures in
    let many : length c.to_write.result.now ≡ c.loop-count.left =
    ap (λ (l : List ℕ). length l) out ∙ sym c.loop-count.invariant.counted in
    let some : 0 < length c.to_write.result.now = subst (λ (n : ℕ). 0 < n) (sym many) (pos_of_ne-zero c.if-left-eq0.false) in
    record {
      makes = sends dumps is_at {S = g.row.S.Denot} g.S.Read.remaining g.S.Write.contents c.args.token (stream_of c.args.peer.now)
          (stream_of c.loop-count.peer) (stream_of c.write.new.self) c.args.server.now c.loop-count.server c.written.new.self
          c.to_write.result.now out some c.loop-count.invariant.makes c.in-Bytes.count c.write.ensures.read
          c.in-Bytes.ensures.bytes.1 c.written.ensures.serves;
      stopped = c.written.ensures.stopped ∙ c.loop-count.invariant.stopped;
      settled = c.written.ensures.settled ∙ c.loop-count.invariant.settled;
      input = c.write.ensures.input ∙ c.loop-count.invariant.input;
      steady = λ e. (c.write.ensures.steady (c.loop-count.invariant.steady e) some).0;
      apart = c.write.ensures.read ∙ c.loop-count.invariant.apart;
      counted =
          let less = ap (λ (l : List ℕ). length l) c.written.ensures.given
          ∙ length-drop c.in-Bytes.count (to_give c.loop-count.server c.args.token) in
          omega (arith, less, c.loop-count.invariant.counted);
      fewer = λ e.
          let (n, same, more) = (c.in-Bytes.ensures.steady (c.loop-count.invariant.steady e) some).1 in
          let took : 0 < c.in-Bytes.count = some_bytes c.in-Bytes.count n same more in
          omega (arith, took, c.loop-count.invariant.fewer e, c.in-Bytes.ensures.bytes.0, many);
    }
