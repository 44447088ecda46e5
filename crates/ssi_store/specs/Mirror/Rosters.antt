-- The transactions of a roster.
use Rattle.std.specs.Prelude.{ℕ, List}
use Rattle.ssi_store.specs.declared.roster.Roster.{Roster}

-- the open ones with their snapshots, in the order in which they began
abbrev pub open_in : Roster → List (ℕ × ℕ)
open_in r = r.open_txns.entries
