-- The events that rows stand for: the keys, the bytes, the listings and the entries of the arena say the rest.
use Rattle.std.specs.Prelude.{ℕ, ◌+◌, ◌*◌, ◌<◌, ◌≤◌, Bool, true, false, ◌&&◌, nat_le, nat_lt, List, length, Option, Some, None, slice_get, vec_len, vec_capacity}
use Rattle.adya_keys.specs.Machinery.KeyTables.{keys_in, CanTake}
use Rattle.adya_keys.specs.Meaning.Keys.{Bytes, Key}
use Rattle.adya_keys.specs.declared.key_table.KeyTable.{KeyTable}
use Rattle.adya_values.specs.Meaning.Histories.{Event, Entry, Write, Delete, Read, Scan, Commit, Abort}
use Rattle.adya_values.specs.Machinery.Seen.{entry_in, is_part, is_seen}
use Rattle.adya_keys.specs.Machinery.Within.{key_at, part, IsFront}
use Rattle.adya_values.specs.declared.seen.Seen.{Seen}
use Rattle.adya_values.specs.declared.arena.Row.{Row}
use Rattle.adya_values.specs.declared.arena.Row.TheVariants as In
use Rattle.adya_values.specs.declared.arena.Listing.{Listing}
use Rattle.adya_values.specs.declared.arena.Arena.{Arena}

-- the scan that the listing says, if there is one
abbrev pub scan_in : List Key → List Entry → ℕ → Option Listing → Event
scan_in ks es t None = Abort t
scan_in ks es t (Some l) = Scan t (key_at ks l.low) (key_at ks l.high) (part l.from l.count es)

-- the listing that the row of a scan says
abbrev pub listing_of : ℕ → ℕ → ℕ → ℕ → Listing
listing_of l h at n = record { low = l; high = h; from = at; count = n }

abbrev pub event_in : List Key → Bytes → List Listing → List Entry → Row → Event
event_in ks bs ls es (In.Write v m t k at) = Write t (key_at ks k) m (part at v bs)
event_in ks bs ls es (In.Delete m t k) = Delete t (key_at ks k) m
event_in ks bs ls es (In.Read v m t w k at) = Read t (record { key = key_at ks k; txn = w; m = m }) (part at v bs)
event_in ks bs ls es (In.Scan n t l h at) = scan_in ks es t (Some (listing_of l h at n))
event_in ks bs ls es (In.Long t l) = scan_in ks es t (slice_get ls l)
event_in ks bs ls es (In.Commit t) = Commit t
event_in ks bs ls es (In.Abort t) = Abort t

-- so many keys are there, and so many entries
abbrev pub is_listing : ℕ → ℕ → Option Listing → Bool
is_listing k n None = false
is_listing k n (Some l) = nat_lt l.low k && (nat_lt l.high k && nat_le (l.from + l.count) n)

-- what the row names is there
abbrev pub is_row : ℕ → Bytes → List Listing → ℕ → Row → Bool
is_row n bs ls m (In.Write v x t k at) = nat_lt k n && is_part bs at v
is_row n bs ls m (In.Delete x t k) = nat_lt k n
is_row n bs ls m (In.Read v x t w k at) = nat_lt k n && is_part bs at v
is_row n bs ls m (In.Scan c t l h at) = is_listing n m (Some (listing_of l h at c))
is_row n bs ls m (In.Long t l) = is_listing n m (slice_get ls l)
is_row n bs ls m (In.Commit t) = true
is_row n bs ls m (In.Abort t) = true

abbrev pub is_row_of : Arena → Row → Bool
is_row_of a r = is_row (length (keys_in a.keys)) a.bytes.items a.listings.items (length a.seen.items) r

-- the entry of the packed entry
abbrev pub entry_of_seen : Arena → Seen → Entry
entry_of_seen a s = entry_in (keys_in a.keys) a.bytes.items s

abbrev pub is_seen_of : Arena → Seen → Bool
is_seen_of a s = is_seen (length (keys_in a.keys)) a.bytes.items s

-- what was in the arena is still where it was
pub record Extends (old new : Arena) : Type 0 where
  pub keys : IsFront (keys_in old.keys) (keys_in new.keys)
  pub bytes : IsFront old.bytes.items new.bytes.items
  pub listings : IsFront old.listings.items new.listings.items
  pub seen : IsFront old.seen.items new.seen.items

-- how many entries the event lists
abbrev pub entry_count : Event → ℕ
entry_count (Write t k m v) = 0
entry_count (Delete t k m) = 0
entry_count (Read t r v) = 0
entry_count (Scan t low high es) = length es
entry_count (Commit t) = 0
entry_count (Abort t) = 0

-- so many more keys fit, and there is room for a place for the last value of each key
pub record CanNumber (keys : KeyTable) (places n : ℕ) : Type 0 where
  pub more : CanTake keys n
  pub enough : length (keys_in keys) + n ≤ places

-- so many entries fit
pub record CanSee (a : Arena) (n : ℕ) : Type 0 where
  pub keys : CanNumber a.keys (vec_capacity a.last_values) n
  pub bytes : vec_len a.bytes + n * 64 ≤ vec_capacity a.bytes
  pub seen : vec_len a.seen + n ≤ vec_capacity a.seen

-- any event fits that lists no more than so many entries
pub record HasRoomIn (a : Arena) (n : ℕ) : Type 0 where
  pub keys : CanNumber a.keys (vec_capacity a.last_values) (n + 2)
  pub bytes : vec_len a.bytes + (n + 1) * 64 ≤ vec_capacity a.bytes
  pub listings : vec_len a.listings < vec_capacity a.listings
  pub seen : vec_len a.seen + n ≤ vec_capacity a.seen
