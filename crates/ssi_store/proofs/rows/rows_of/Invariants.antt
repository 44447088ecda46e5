use Rattle.std.proofs.Common.{◌≡◌, map, take}
use Rattle.adya_values.specs.Mirror.Events.{entry_of, final_of}
use Rattle.adya_values.specs.Meaning.Serial.{visible_pairs}
use Rattle.ssi_store.proofs.rows.rows_of.Given as goal

abbrev pub invariant-entries : goal.invariant-entries
invariant-entries l = map final_of l.rows.items ≡ visible_pairs (map entry_of (take l.entry-index l.entries))
