-- What is seen of a finished store.
use Rattle.std.specs.Prelude.{ℕ, List}
use Rattle.adya_values.specs.Meaning.Histories.{History}
use Rattle.adya_values.specs.Mirror.Histories.{history_of}
use Rattle.ssi_store.specs.declared.finish.Finished.{Finished}

-- its history
abbrev pub recorded_in : Finished → History
recorded_in f = history_of f.history

-- its transactions with their snapshots
abbrev pub snapshots_in : Finished → List (ℕ × ℕ)
snapshots_in f = f.snapshots.items
