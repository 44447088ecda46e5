use Rattle.std.proofs.Common.{true, ◌≡◌, ◌<◌, ◌∙◌, ℕ, [], length, refl, sym, subst, pos_of_ne-zero, arith}
use Rattle.ssi_hub.specs.Clauses.Buffers.{first_unsent}
use Rattle.ssi_hub.specs.Clauses.Calls.{Closed, Wrote}
use Rattle.ssi_hub.specs.Mirror.{buffers_of}
use Rattle.ssi_cli.specs.Clauses.Turns.{Exchanged}
use Rattle.ssi_cli.specs.Mirror.{stream_of}
use Rattle.ssi_cli.proofs.HubRuns.{called_with, called_both, not_called}
use Rattle.ssi_cli.proofs.Exchanges.{none_exchanged}
use Rattle.ssi_cli.proofs.Makings.{makes_none, sends, stays, breaks, as_many, counts, counts_less, some_bytes}
use Rattle.ssi_cli.proofs.turns.send.Goals as goal

pub loop-count-init : goal.loop-count-init
loop-count-init g c = record {
  called = not_called c.args.hub.now;
  makes = makes_none c.args.hub.now (λ _ made. Exchanged {S = g.row.S.Denot} g.S.Read.remaining g.S.Write.contents
      c.args.token (stream_of c.args.peer.now) (stream_of c.args.peer.now) made [])
      (λ calls. none_exchanged {S = g.row.S.Denot} g.S.Read.remaining g.S.Write.contents c.args.token
      (stream_of c.args.peer.now));
  input = refl;
  steady = λ e. e;
  apart = refl;
  counted = counts (buffers_of c.args.hub.now c.args.token) (length c.to_write-left.result.now)
      c.to_write-left.result.now c.to_write-left.ensures refl;
  fewer = λ e. omega (arith, c.to_write-left.type_inv.0);
  going = λ e. e;
  less = λ e. omega (arith, c.to_write-left.type_inv.0);
}

pub returns-in-Later-clause-written : goal.returns-in-Later-clause-written
returns-in-Later-clause-written g c =
    stays {S = g.row.S.Denot} g.S.Read.remaining g.S.Write.contents c.args.token (stream_of c.args.peer.now)
    (stream_of c.loop-count.peer) (stream_of c.write.new.self) c.args.hub.now c.loop-count.hub c.loop-count.hub
    c.to_write.result.now c.loop-count.invariant.makes c.write.ensures.read c.in-Later.ensures.bytes

pub returns-in-Never-clause-broken : goal.returns-in-Never-clause-broken
returns-in-Never-clause-broken g c =
    let some : 0 < length c.to_write.result.now =
    subst (λ (n : ℕ). 0 < n)
    (sym (as_many (buffers_of c.loop-count.hub c.args.token) c.loop-count.left c.to_write.result.now
    c.loop-count.invariant.counted c.to_write.ensures))
    (pos_of_ne-zero c.if-left-eq0.false) in (
      refl,
      breaks {S = g.row.S.Denot} g.S.Read.remaining g.S.Write.contents c.args.token (stream_of c.args.peer.now)
          (stream_of c.loop-count.peer) (stream_of c.write.new.self) c.args.hub.now c.loop-count.hub c.closed.new.self
          c.to_write.result.now c.to_write.ensures some c.loop-count.invariant.makes c.write.ensures.read
          c.in-Never.ensures.bytes (c.closed.ensures.stands true),
    )

pub loop-count-preserved : goal.loop-count-preserved
loop-count-preserved g c =
    let many : length c.to_write.result.now ≡ c.loop-count.left =
    as_many (buffers_of c.loop-count.hub c.args.token) c.loop-count.left c.to_write.result.now
    c.loop-count.invariant.counted c.to_write.ensures in
    let some : 0 < length c.to_write.result.now =
    subst (λ (n : ℕ). 0 < n) (sym many) (pos_of_ne-zero c.if-left-eq0.false) in record {
      called = called_both c.args.hub.now c.loop-count.hub c.written.new.self c.loop-count.invariant.called
          (called_with c.loop-count.hub c.written.new.self
          (Wrote c.args.token (first_unsent c.in-Bytes.count (buffers_of c.loop-count.hub c.args.token))) (λ calls. refl)
          c.written.ensures.written.stopped (c.written.ensures.stands true));
      makes = sends {S = g.row.S.Denot} g.S.Read.remaining g.S.Write.contents c.args.token (stream_of c.args.peer.now)
          (stream_of c.loop-count.peer) (stream_of c.write.new.self) c.args.hub.now c.loop-count.hub c.written.new.self
          c.to_write.result.now c.in-Bytes.count c.to_write.ensures some c.loop-count.invariant.makes c.write.ensures.read
          c.in-Bytes.ensures.bytes.1 (c.written.ensures.stands true);
      input = c.write.ensures.input ∙ c.loop-count.invariant.input;
      steady = λ e. (c.write.ensures.steady (c.loop-count.invariant.steady e) some).0;
      apart = c.write.ensures.read ∙ c.loop-count.invariant.apart;
      counted = counts_less (buffers_of c.loop-count.hub c.args.token) (buffers_of c.written.new.self c.args.token)
          c.loop-count.left c.in-Bytes.count c.loop-count.invariant.counted c.written.ensures.written.own;
      fewer = λ e.
          let (n, same, more) = (c.in-Bytes.ensures.steady (c.loop-count.invariant.steady e) some).1 in
          let took : 0 < c.in-Bytes.count = some_bytes c.in-Bytes.count n same more in
          omega (arith, took, c.loop-count.invariant.fewer e, c.in-Bytes.ensures.bytes.0, many);
      going = λ e. (c.write.ensures.taken (c.loop-count.invariant.going e) some).0;
      less = λ e.
          let took : 0 < c.in-Bytes.count = (c.in-Bytes.ensures.taken (c.loop-count.invariant.going e) some).1 in
          omega (arith, took, c.loop-count.invariant.less e, c.in-Bytes.ensures.bytes.0, many);
    }

pub returns-in-Never-clause-called : goal.returns-in-Never-clause-called
returns-in-Never-clause-called g c =
    called_both c.args.hub.now c.loop-count.hub c.closed.new.self c.loop-count.invariant.called
    (called_with c.loop-count.hub c.closed.new.self (Closed c.args.token) (λ calls. refl) c.closed.ensures.closed.stopped
    (c.closed.ensures.stands true))
