-- When a cycle of a history's graph holds a dangerous structure.
use Rattle.std.specs.Prelude.{ℕ, ◌≤◌, List, [], ◌∷◌, Contains}
use Rattle.adya_values.specs.Meaning.Histories.{History}
use Rattle.adya_values.specs.Meaning.Edges.{Edge}
use Rattle.snapshot_histories.specs.Clauses.Snapshots.{stamp_in, IsDangerous}

-- two consecutive edges
pub record Turn : Type 0 where
  pub into : Edge
  pub out : Edge

-- each edge with the next one, and the last with the first
abbrev pub turns_to : Edge → List Edge → List Turn
turns_to first [] = []
turns_to first (e ∷ []) = record { into = e; out = first } ∷ []
turns_to first (e ∷ f ∷ es) = record { into = e; out = f } ∷ turns_to first (f ∷ es)

-- all turns of a cycle
abbrev pub turns : List Edge → List Turn
turns [] = []
turns (e ∷ es) = turns_to e (e ∷ es)

-- two consecutive edges of the cycle are a dangerous structure, and the transaction at its end is the first of the cycle
-- to commit
pub record HasDanger (h : History) (snapshot_of : ℕ → ℕ) (cycle : List Edge) : Type 0 where
  pub turn : Turn
  pub there : Contains (turns cycle) turn
  pub dangerous : IsDangerous h snapshot_of turn.into turn.out
  pub first : (e : Edge) → Contains cycle e → stamp_in h turn.out.to ≤ stamp_in h e.from
