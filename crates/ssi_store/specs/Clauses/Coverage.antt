-- What the history of a course is, by a rule whose pivots never stand.
use Rattle.std.specs.Prelude.{◌≡◌, ℕ, true, List, ◌==◌, if◌then◌else◌, [], ◌∷◌, map}
use Rattle.adya_values.specs.Meaning.Histories.{History}
use Rattle.adya_values.specs.Computing.Shapes.{is_shape, fits_edition}
use Rattle.adya_values.specs.Meaning.Edges.{Rw, Edge, IsEdge}
use Rattle.ssi_conflict.specs.Meaning.Calls.{Call}
use Rattle.ssi_conflict.specs.Clauses.Pairs.{IsPair}
use Rattle.snapshot_histories.specs.Clauses.Snapshots.{AreConcurrent, IsSafe}
use Rattle.ssi_store.specs.Meaning.Courses.{Course}
use Rattle.ssi_store.specs.Meaning.Acts.{acts, begun}
use Rattle.ssi_store.specs.Meaning.Tracked.{tracked}
use Rattle.ssi_store.specs.Meaning.Seeing.{snapshot}

-- each transaction with its snapshot, by number
abbrev pub snapshots : Course → List (ℕ × ℕ)
snapshots c = map (λ t. (t, snapshot t (acts c))) (begun (acts c))

-- the snapshot of the transaction in such a list, 0 if it isn't there
abbrev pub snapshot_in : List (ℕ × ℕ) → ℕ → ℕ
snapshot_in [] t = 0
snapshot_in (s ∷ ss) t = if s.0 == t then s.1 else snapshot_in ss t

-- the snapshot of a transaction of the course
abbrev pub course_snapshot : Course → ℕ → ℕ
course_snapshot c t = snapshot_in (snapshots c) t

-- what a history of the course is, by a rule whose pivots never stand
pub record IsCovered (IsStanding : ℕ → List Call → Type 0) (c : Course) (h : History) : Type 0 where
  -- the history is checked, a snapshot history, and without a dangerous structure
  pub safe : IsSafe h (course_snapshot c)
  -- its orders and finals are as a history's must be, and so are its unfinished transactions for its edition
  pub shaped : is_shape h.orders h.finals ≡ true
  pub fits : fits_edition h.edition h.unfinished ≡ true
  -- each anti-dependency between concurrent transactions is a pair
  pub pairs : (e : Edge) → IsEdge h e → e.kind ≡ Rw → AreConcurrent h (course_snapshot c) e.from e.to
      → IsPair e.from e.to (tracked (acts c))
  pub no_pivot : (t : ℕ) → IsStanding t (tracked (acts c)) → ⊥
