-- What was written to the stream so far is what the server was told, and `left` bytes may still be sent.
use Rattle.std.proofs.Common.{◌≡◌, ◌+◌, ◌≤◌, true, [], length}
use Rattle.ssi_hub.specs.Mirror.{is_stopped}
use Rattle.ssi_durable.specs.Mirror.Servers.{hub_of, is_settled, to_give}
use Rattle.ssi_cli.specs.Clauses.Turns.{Exchanged}
use Rattle.ssi_cli.specs.Mirror.{stream_of, input_of}
use Rattle.ssi_data.specs.Clauses.Calls.{MakesQuietly}
use Rattle.ssi_data.proofs.turns.send.Given as goal

abbrev pub invariant-loop-count : goal.invariant-loop-count
invariant-loop-count g l = record {
  makes : MakesQuietly g.T.ProtocolStore.keeps g.T.AnyStore.is_at l.initial.server l.server (λ _ made.
      Exchanged {S = g.row.S.Denot} g.S.Read.remaining g.S.Write.contents l.token
      (stream_of l.initial.peer) (stream_of l.peer) made []);
  stopped : is_stopped (hub_of l.server) ≡ is_stopped (hub_of l.initial.server);
  settled : is_settled l.server ≡ is_settled l.initial.server;
  input : input_of l.peer ≡ input_of l.initial.peer;
  steady : g.S.Stream.is_steady (stream_of l.initial.peer) ≡ true → g.S.Stream.is_steady (stream_of l.peer) ≡ true;
  apart : g.S.Read.remaining (stream_of l.peer) ≡ g.S.Read.remaining (stream_of l.initial.peer);
  counted : l.left ≡ length (to_give l.server l.token);
  fewer : g.S.Stream.is_steady (stream_of l.initial.peer) ≡ true → l.left + l._count ≤ 18446744073709551615;
}
