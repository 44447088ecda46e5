-- The room of a roster.
use Rattle.std.specs.Prelude.{◌<◌}
use Rattle.indexmap.specs.IndexMap.{spare}
use Rattle.ssi_store.specs.declared.roster.Roster.{Roster}

-- one more transaction fits
abbrev pub HasRoom : Roster → Type 0
HasRoom r = 0 < spare r.open_txns
