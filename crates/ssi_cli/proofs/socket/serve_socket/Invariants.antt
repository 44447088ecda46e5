-- The connections so far were served, and none of them stopped the run.
use Rattle.ssi_store.specs.Mirror.Stores.{IsAt}
use Rattle.ssi_cli.specs.Machinery.InTurn.{SoFar}
use Rattle.ssi_cli.proofs.socket.serve_socket.Given as goal

abbrev pub invariant-loop-count : goal.invariant-loop-count
invariant-loop-count g l =
    SoFar g.L.Reader.Read.remaining g.L.Reader.Source.is_failed g.L.Writer.Write.contents g.L.Listener.accepts
    g.L.Listener.closes (IsAt g.C.Chains.held g.M.Marks.marked) l.initial.listener l.initial.store l.listener l.store l._count
