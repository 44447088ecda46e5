-- What a scan has to list of its own transaction's writes.
use Rattle.std.specs.Prelude.{◌≡◌, ℕ, Bool, true, not, ◌||◌, List, Option, Some}
use Rattle.std.specs.BTreeMap.{BTreeMap}
use Rattle.adya_keys.specs.Meaning.Keys.{lies_in}
use Rattle.adya_values.specs.Meaning.Histories.{Entry, Event}
use Rattle.adya_values.specs.Mirror.Events.{events_of}
use Rattle.adya_values.specs.Computing.Faults.{none_or_lists_only}
use Rattle.adya_terms.specs.declared.scans.Owed.{Owed}
use Rattle.adya_terms.specs.Machinery.Tables.{own, written_at}
use Rattle.adya_terms.specs.Machinery.Chains.{place_in}
use Rattle.adya_terms.specs.Machinery.OwnWrites.{place_of}
use Rattle.adya_terms.specs.Machinery.Scans.{listed}

-- the key isn't between the bounds, or the list has its last write and nothing else of it
abbrev pub passes : Owed → List ℕ → Bool
passes o k =
    let scan = o.scan.now in
    not (lies_in scan.low scan.high k) || none_or_lists_only (listed scan) (written_at (events_of scan.events.now) (place_of o.writes.now (own o.txn k)))

-- the entries have what was written at the place of each key between the two, and nothing else of the key
abbrev pub AreShown : Option (BTreeMap (List ℕ) ℕ) → List ℕ → List ℕ → List Entry → List Event → Type 0
AreShown places low high es all =
    (k : List ℕ) (p : ℕ) → lies_in low high k ≡ true → place_in places k ≡ Some p → none_or_lists_only es (written_at all (Some p)) ≡ true
