-- Held versions as entries.
use Rattle.std.specs.Prelude.{List, map}
use Rattle.adya_values.specs.Meaning.Histories.{Entry}
use Rattle.ssi_versions.specs.Meaning.Changes.{Held}

-- without their stamps
abbrev pub entries_in : List Held → List Entry
entries_in hs = map (λ h. h.entry) hs
