-- Writes in an index map from keys, and a scan's entries in an ordered one.
use Rattle.std.specs.Prelude.{ℕ, Bool, true, List, [], ◌∷◌, map, Option, option_map}
use Rattle.std.specs.List.{list_all}
use Rattle.std.specs.Map.{lookup, values_of}
use Rattle.std.specs.BTreeMap.{is_at}
use Rattle.std.specs.Ordering.{nat_cmp}
use Rattle.std.specs.Cmp.Lexicographic.{slice_cmp}
use Rattle.adya_values.specs.declared.event.Version.{Version}
use Rattle.adya_values.specs.declared.event.Content.{Content}
use Rattle.adya_values.specs.declared.event.Entry.{Entry as EntryValue}
use Rattle.adya_keys.specs.Meaning.Keys.{key_eq}
use Rattle.adya_values.specs.Meaning.Histories.{Entry}
use Rattle.adya_values.specs.Mirror.Events.{entry_of}
use Rattle.ssi_versions.specs.Mirror.{write_of}
use Rattle.ssi_snapshot.specs.declared.writes.Writes.{Writes}
use Rattle.ssi_snapshot.specs.declared.writes.Writes.TheVariants.{Nothing, Single, Several}

-- what is stored under each key is of this key
abbrev pub are_keyed : {X : Type 0} → (X → List ℕ) → List (List ℕ × X) → Bool
are_keyed key es = list_all (λ e. key_eq (key e.1) e.0) es

-- a write as it is stored, under its key
abbrev pub Write : Type 0
Write = Version × Content

abbrev pub write_key : Write → List ℕ
write_key w = w.0.key

abbrev pub entry_key : EntryValue → List ℕ
entry_key w = w.version.key

-- the writes in the order of their map
abbrev pub stored_writes : List (List ℕ × Write) → List Entry
stored_writes es = map write_of (values_of es)

-- the writes, as one list
abbrev pub all_writes : Writes → List Write
all_writes Nothing = []
all_writes (Single w) = w ∷ []
all_writes (Several ws) = values_of ws.entries

-- several writes are stored under their keys
abbrev pub is_keyed : Writes → Bool
is_keyed Nothing = true
is_keyed (Single w) = true
is_keyed (Several ws) = are_keyed write_key ws.entries

-- what the ordered map has of the key
abbrev pub stored_at : List ℕ → List (List ℕ × EntryValue) → Option Entry
stored_at key es = option_map entry_of (lookup (is_at (slice_cmp nat_cmp key)) es)
