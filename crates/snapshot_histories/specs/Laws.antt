-- Which cycles a snapshot history can have (Fekete, Liarokapis, O'Neil, O'Neil and Shasha 2005).
use Rattle.std.specs.Prelude.{ℕ, List}
use Rattle.adya_values.specs.Meaning.Histories.{History}
use Rattle.adya_values.specs.Meaning.Edges.{Edge, IsCycle}
use Rattle.adya_values.specs.Clauses.Acceptance.{IsChecked}
use Rattle.snapshot_histories.specs.Clauses.Snapshots.{IsSnapshotHistory, IsSafe}
use Rattle.snapshot_histories.specs.Clauses.Cycles.{HasDanger}

-- each cycle of a checked snapshot history holds a dangerous structure
abbrev pub CyclesAreDangerous : Type 0
CyclesAreDangerous = (h : History) (snapshot_of : ℕ → ℕ) → IsChecked h → IsSnapshotHistory h snapshot_of
    → (cycle : List Edge) → IsCycle h cycle → HasDanger h snapshot_of cycle

-- so a safe history has no cycle
abbrev pub SafeHistoriesHaveNoCycle : Type 0
SafeHistoriesHaveNoCycle = (h : History) (snapshot_of : ℕ → ℕ) → IsSafe h snapshot_of → (cycle : List Edge) → IsCycle h cycle → ⊥
