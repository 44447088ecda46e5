-- Only sessions were aborted that the connection had used last, and each session has the user that it had, or none.
use Rattle.std.proofs.Common.{◌≡◌, ℕ, List, Some, None}
use Rattle.ssi_store.specs.Mirror.Stores.{IsAt}
use Rattle.ssi_hub.specs.Mirror.{buffers_of}
use Rattle.ssi_cli.specs.Clauses.Leaving.{HasAborted}
use Rattle.ssi_cli.specs.Mirror.{last_in}
use Rattle.ssi_cli.proofs.leaving.abort_each.Given as goal

abbrev pub invariant-loop : goal.invariant-loop
invariant-loop g l =
    HasAborted (IsAt g.C.Chains.held g.M.Marks.marked) (λ s. last_in l.initial.users s ≡ Some l.token)
    l.initial.hub l.initial.store l.hub l.store
    × ((s : List ℕ) (t : ℕ) → last_in l.users s ≡ Some t → last_in l.initial.users s ≡ Some t)
    × ((t : ℕ) → buffers_of l.initial.hub t ≡ None → buffers_of l.hub t ≡ None)
