-- Open transactions with their snapshots.
use Rattle.std.specs.Prelude.{ℕ, ◌<◌, List, map, Contains}

-- their numbers
abbrev pub txns_in : List (ℕ × ℕ) → List ℕ
txns_in es = map (λ e. e.0) es

-- all of them are below this number
abbrev pub AreBelow : ℕ → List (ℕ × ℕ) → Type 0
AreBelow n es = (u : ℕ) → Contains (txns_in es) u → u < n
