-- Lines were carried out, and the run goes on.
use Rattle.std.proofs.Common.{◌≡◌, ℕ, List, false, length}
use Rattle.ssi_line.specs.Meaning.Steps.{Step}
use Rattle.ssi_hub.specs.Clauses.Clipping.{clipped}
use Rattle.ssi_hub.specs.Clauses.Runs.{CarriedOut}
use Rattle.ssi_hub.proofs.connection.Connection.run.Given as goal

abbrev pub invariant-lines : goal.invariant-lines
invariant-lines g l = (bytes : List ℕ) → l.fn.self.waiting ≡ clipped bytes
    → (lines : List (List ℕ)) × (steps : List Step) × (left : List ℕ)
    × CarriedOut g.S.ProtocolStore.keeps g.S.AnyStore.is_at l.fn.self bytes l.fn.store false false
    lines steps left l.self l.store
    × (length lines ≡ l.counter)
