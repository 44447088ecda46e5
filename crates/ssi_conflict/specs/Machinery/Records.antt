-- The rows of records.
use Rattle.std.specs.Prelude.{◌≡◌, ◌≢◌, ℕ, Option, option_map}
use Rattle.std.specs.BTreeMap.{get}
use Rattle.std.specs.Ordering.{nat_cmp}
use Rattle.slab.specs.Slab.{get as held}
use Rattle.ssi_conflict.specs.Machinery.Rows.{Row}
use Rattle.ssi_conflict.specs.Machinery.Slots.{at_slot}
use Rattle.ssi_conflict.specs.declared.record.Record.{Record}
use Rattle.ssi_conflict.specs.declared.records.Records.{Records}

abbrev pub row_of : Record → Row
row_of r = record { snapshot = r.snapshot; stamp = r.stamp; keys = r.keys.items; first_out = r.first_out }

abbrev pub row_in : Records → ℕ → Option Row
row_in m t = option_map row_of (at_slot (get nat_cmp m.slots t) (held m.records))

-- the second is the first but at t
pub record Changes (f g : ℕ → Option Row) (t : ℕ) (o : Option Row) : Type 0 where
  pub here : g t ≡ o
  pub others : (x : ℕ) → x ≢ t → g x ≡ f x
