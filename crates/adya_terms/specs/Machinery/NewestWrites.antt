-- What the places of the keys' newest writes say about the events that they were made of.
use Rattle.std.specs.Prelude.{◌≡◌, ℕ, suc, true, List, Some, slice_get}
use Rattle.std.specs.List.{filter_map, list_any}
use Rattle.adya_values.specs.Meaning.Histories.{Entry, Event}
use Rattle.adya_values.specs.Meaning.Events.{written}
use Rattle.adya_values.specs.Computing.Faults.{entry_eq, is_entry}
use Rattle.adya_terms.specs.declared.newest_writes.NewestWrites.{NewestWrites}
use Rattle.adya_terms.specs.Machinery.Tables.{written_at}

-- what is written at the places was written by the events before
abbrev pub AreWritten : List ℕ → List Event → List Event → Type 0
AreWritten places all before =
    (i p : ℕ) → slice_get places i ≡ Some (suc p) → (o : Entry) → is_entry (written_at all (Some p)) o ≡ true → list_any (entry_eq o) (filter_map written before) ≡ true

abbrev pub Keeps : NewestWrites → List Event → List Event → Type 0
Keeps n all before = AreWritten n.places.items all before
