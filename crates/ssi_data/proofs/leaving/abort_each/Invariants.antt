-- Only sessions were aborted that the connection had used last, and each session has the user that it had, or none.
use Rattle.std.proofs.Common.{◌≡◌, ℕ, List, Some}
use Rattle.ssi_cli.specs.Mirror.{last_in}
use Rattle.ssi_data.specs.Clauses.Leaving.{HasAborted}
use Rattle.ssi_data.proofs.leaving.abort_each.Given as goal

abbrev pub invariant-loop : goal.invariant-loop
invariant-loop g l = record {
  aborts : HasAborted g.T.ProtocolStore.keeps g.T.AnyStore.is_at
      (λ s. last_in l.initial.users s ≡ Some l.token) l.initial.server l.server;
  forgets : (s : List ℕ) (t : ℕ) → last_in l.users s ≡ Some t → last_in l.initial.users s ≡ Some t;
}
