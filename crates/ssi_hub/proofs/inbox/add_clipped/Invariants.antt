-- Lines were added, and the rest follows.
use Rattle.std.proofs.Common.{◌≡◌, ℕ, List, ◌++◌, length}
use Rattle.ssi_hub.specs.Clauses.Clipping.{clipped_after, kept_of_last}
use Rattle.ssi_hub.proofs.inbox.add_clipped.Given as goal

abbrev pub invariant-loop-line : goal.invariant-loop-line
invariant-loop-line l =
    (l.to ++ clipped_after l.unfinished l.rest ≡ l.fn.to ++ clipped_after l.fn.unfinished l.fn.bytes)
    × (kept_of_last l.unfinished l.rest ≡ kept_of_last l.fn.unfinished l.fn.bytes)
    × ((added : List ℕ) × (l.to ≡ l.fn.to ++ added))

abbrev pub decreases-loop-line : goal.decreases-loop-line
decreases-loop-line l = length l.rest
