-- What was written to the stream so far is what the hub was told, and `left` bytes are unsent.
use Rattle.std.proofs.Common.{◌≡◌, ◌+◌, ◌≤◌, true, [], length}
use Rattle.std.specs.Prelude.{MatchOption}
use Rattle.ssi_hub.specs.Mirror.{buffers_of}
use Rattle.ssi_cli.specs.Machinery.HubRuns.{WasCalled}
use Rattle.ssi_cli.specs.Clauses.Turns.{Makes, Exchanged}
use Rattle.ssi_cli.specs.Mirror.{stream_of, input_of}
use Rattle.ssi_cli.proofs.turns.send.Given as goal

abbrev pub invariant-loop-count : goal.invariant-loop-count
invariant-loop-count g l = record {
  called : WasCalled l.initial.hub l.hub;
  makes : Makes l.initial.hub l.hub (λ _ made. Exchanged {S = g.row.S.Denot} g.S.Read.remaining g.S.Write.contents l.token
      (stream_of l.initial.peer) (stream_of l.peer) made []);
  input : input_of l.peer ≡ input_of l.initial.peer;
  steady : g.S.Stream.is_steady (stream_of l.initial.peer) ≡ true → g.S.Stream.is_steady (stream_of l.peer) ≡ true;
  apart : g.S.Read.remaining (stream_of l.peer) ≡ g.S.Read.remaining (stream_of l.initial.peer);
  counted : MatchOption (buffers_of l.hub l.token) (l.left ≡ 0) (λ b. l.left ≡ length b.unsent);
  fewer : g.S.Stream.is_steady (stream_of l.initial.peer) ≡ true → l.left + l._count ≤ 18446744073709551615;
  going : g.S.Stream.never_waits (stream_of l.initial.peer) ≡ true → g.S.Stream.never_waits (stream_of l.peer) ≡ true;
  less : g.S.Stream.never_waits (stream_of l.initial.peer) ≡ true → l.left + l._count ≤ 18446744073709551615;
}
