use Rattle.std.proofs.Common.{◌≡◌, map, take}
use Rattle.adya_values.specs.Mirror.Events.{final_of}
use Rattle.adya_values.specs.Meaning.Serial.{visible_pairs}
use Rattle.ssi_versions.specs.Mirror.{held_of}
use Rattle.ssi_store.specs.Machinery.HeldRows.{entries_in}
use Rattle.ssi_store.proofs.rows.held_rows.Given as goal

abbrev pub invariant-versions : goal.invariant-versions
invariant-versions l = map final_of l.rows.items ≡ visible_pairs (entries_in (map held_of (take l.version-index l.held)))
