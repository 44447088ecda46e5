-- What rows stand for stays when something is added behind what they name.
use Rattle.std.proofs.Common.{◌≡◌, ◌∙◌, ℕ, zero, suc, ◌+◌, ◌<◌, ◌≤◌, Bool, true, false, if◌then◌else◌, List, [], ◌∷◌, ◌++◌, map, length, Option, Some, None, get_or, slice_get, sym, ap, refl, subst, arith}
use Rattle.adya_keys.specs.Machinery.KeyTables.{keys_in}
use Rattle.std.specs.List.{list_all}
use Rattle.std.specs.Prelude.{nat_lt}
use Rattle.std.specs.Prelude.{OnErr}
use Rattle.std.proofs.Common.{Result, Ok, Err}
use Rattle.std.proofs.Math.Bool.{false≢true}
use Rattle.std.proofs.lemmas.List.{length-append, length-map, map-append}
use Rattle.std.proofs.lemmas.Bool.{and_from, and_parts, le-leb, leb-true, ltb-true}
use Rattle.adya_keys.specs.Meaning.Keys.{Bytes, Key}
use Rattle.adya_values.specs.Meaning.Histories.{Entry, Delete, Read, Scan, Write}
use Rattle.adya_values.specs.declared.arena.Row.{Row}
use Rattle.adya_values.specs.declared.arena.Row.TheVariants as In
use Rattle.adya_values.specs.declared.arena.Listing.{Listing}
use Rattle.adya_values.specs.declared.arena.Arena.{Arena}
use Rattle.adya_values.specs.Mirror.Events.{event_of_row}
use Rattle.adya_values.specs.Machinery.Seen.{is_part}
use Rattle.adya_keys.specs.Machinery.Within.{key_at, part, IsFront}
use Rattle.adya_values.specs.Machinery.Packed.{entry_of_seen, CanNumber, Extends, event_in, is_listing, is_row, is_row_of, listing_of, scan_in}
use Rattle.adya_values.proofs.PackedParts.{is_part_stays, same_entries_in}
use Rattle.adya_keys.proofs.KeyChains.{takes_less}
use Rattle.adya_keys.specs.declared.key_table.KeyTable.{KeyTable}
use Rattle.adya_keys.proofs.Within.{front_same, front_trans, key_stays, part_stays}

module _ (ks km : List Key) where
  listing_stays : (n m : ℕ) (o : Option Listing) → n ≤ m → is_listing (length ks) n o ≡ true → is_listing (length (ks ++ km)) m o ≡ true
  listing_stays n m None l e = e
  listing_stays n m (Some x) l e =
      let (low, rest) = and_parts (nat_lt x.low (length ks)) _ e in
      let (high, within) = and_parts (nat_lt x.high (length ks)) _ rest in
      and_from _ _ (key_stays ks km x.low low).there
      (and_from _ _ (key_stays ks km x.high high).there
      (le-leb (x.from + x.count) m (omega (arith, l, leb-true (x.from + x.count) n within))))

  scan_stays : (es em : List Entry) (t : ℕ) (o : Option Listing) → is_listing (length ks) (length es) o ≡ true
      → scan_in (ks ++ km) (es ++ em) t o ≡ scan_in ks es t o
  scan_stays es em t None e = refl
  scan_stays es em t (Some x) e =
      let (low, rest) = and_parts (nat_lt x.low (length ks)) _ e in
      let (high, within) = and_parts (nat_lt x.high (length ks)) _ rest in
      ap (λ k. Scan t k (key_at (ks ++ km) x.high) (part x.from x.count (es ++ em))) (key_stays ks km x.low low).key ∙
      (ap (λ k. Scan t (key_at ks x.low) k (part x.from x.count (es ++ em))) (key_stays ks km x.high high).key ∙
      ap (λ ws. Scan t (key_at ks x.low) (key_at ks x.high) ws)
      (part_stays x.from x.count es em (leb-true (x.from + x.count) (length es) within)))

  -- a listing that is there stays
  same_listing : (n : ℕ) (ls lm : List Listing) (i : ℕ) → is_listing (length ks) n (slice_get ls i) ≡ true → slice_get (ls ++ lm) i ≡ slice_get ls i
  same_listing n [] lm i e = absurd (false≢true e)
  same_listing n (x ∷ xs) lm zero e = refl
  same_listing n (x ∷ xs) lm (suc i) e = same_listing n xs lm i e

module _ (ks km : List Key) (bs bm : Bytes) (ls lm : List Listing) where
  -- a value that is there stays
  same_value : (at n : ℕ) → is_part bs at n ≡ true → part at n (bs ++ bm) ≡ part at n bs
  same_value at n e = part_stays at n bs bm (leb-true (at + n) (length bs) (and_parts _ _ e).0)

  row_stays : (n m : ℕ) → n ≤ m → (r : Row) → is_row (length ks) bs ls n r ≡ true → is_row (length (ks ++ km)) (bs ++ bm) (ls ++ lm) m r ≡ true
  row_stays n m l (In.Write v x t k at) e =
      let (key, value) = and_parts (nat_lt k (length ks)) _ e in
      and_from _ _ (key_stays ks km k key).there (is_part_stays bs bm at v value)
  row_stays n m l (In.Delete x t k) e = (key_stays ks km k e).there
  row_stays n m l (In.Read v x t w k at) e =
      let (key, value) = and_parts (nat_lt k (length ks)) _ e in
      and_from _ _ (key_stays ks km k key).there (is_part_stays bs bm at v value)
  row_stays n m l (In.Scan c t k h at) e = listing_stays ks km n m (Some (listing_of k h at c)) l e
  row_stays n m l (In.Long t i) e =
      ap (is_listing (length (ks ++ km)) m) (same_listing ks km n ls lm i e) ∙ listing_stays ks km n m (slice_get ls i) l e
  row_stays n m l (In.Commit t) e = e
  row_stays n m l (In.Abort t) e = e

  pub rows_stay : (n m : ℕ) → n ≤ m → (rs : List Row) → list_all (is_row (length ks) bs ls n) rs ≡ true
      → list_all (is_row (length (ks ++ km)) (bs ++ bm) (ls ++ lm) m) rs ≡ true
  rows_stay n m l [] e = refl
  rows_stay n m l (r ∷ rs) e =
      let (here, rest) = and_parts (is_row (length ks) bs ls n r) _ e in
      and_from _ _ (row_stays n m l r here) (rows_stay n m l rs rest)

  event_stays : (es em : List Entry) (r : Row) → is_row (length ks) bs ls (length es) r ≡ true
      → event_in (ks ++ km) (bs ++ bm) (ls ++ lm) (es ++ em) r ≡ event_in ks bs ls es r
  event_stays es em (In.Write v m t k at) e =
      let (key, value) = and_parts (nat_lt k (length ks)) _ e in
      ap (λ x. Write t x m (part at v (bs ++ bm))) (key_stays ks km k key).key ∙ ap (λ x. Write t (key_at ks k) m x) (same_value at v value)
  event_stays es em (In.Delete m t k) e = ap (λ x. Delete t x m) (key_stays ks km k e).key
  event_stays es em (In.Read v m t w k at) e =
      let (key, value) = and_parts (nat_lt k (length ks)) _ e in
      ap (λ x. Read t (record { key = x; txn = w; m = m }) (part at v (bs ++ bm))) (key_stays ks km k key).key ∙
      ap (λ x. Read t (record { key = key_at ks k; txn = w; m = m }) x) (same_value at v value)
  event_stays es em (In.Scan c t k h at) e = scan_stays ks km es em t (Some (listing_of k h at c)) e
  event_stays es em (In.Long t i) e =
      ap (scan_in (ks ++ km) (es ++ em) t) (same_listing ks km (length es) ls lm i e) ∙
      scan_stays ks km es em t (slice_get ls i) e
  event_stays es em (In.Commit t) e = refl
  event_stays es em (In.Abort t) e = refl

  pub events_stay : (es em : List Entry) (rs : List Row) → list_all (is_row (length ks) bs ls (length es)) rs ≡ true
      → map (event_in (ks ++ km) (bs ++ bm) (ls ++ lm) (es ++ em)) rs ≡ map (event_in ks bs ls es) rs
  events_stay es em [] e = refl
  events_stay es em (r ∷ rs) e =
      let (here, rest) = and_parts (is_row (length ks) bs ls (length es) r) _ e in
      ap (λ x. x ∷ map (event_in (ks ++ km) (bs ++ bm) (ls ++ lm) (es ++ em)) rs) (event_stays es em r here) ∙
      ap (λ xs. event_in ks bs ls es r ∷ xs) (events_stay es em rs rest)

-- the same of lists that are known to be longer
rows_stay_in : (ks km also : List Key) (bs bm more : Bytes) (ls lm rest : List Listing) → km ≡ ks ++ also → bm ≡ bs ++ more → lm ≡ ls ++ rest
    → (n m : ℕ) → n ≤ m → (rs : List Row) → list_all (is_row (length ks) bs ls n) rs ≡ true → list_all (is_row (length km) bm lm m) rs ≡ true
rows_stay_in ks km also bs bm more ls lm rest o p q n m l rs e = rw (o, p, q) (rows_stay ks also bs more ls rest n m l rs e)

events_stay_in : (ks km also : List Key) (bs bm more : Bytes) (ls lm rest : List Listing) (es em left : List Entry)
    → km ≡ ks ++ also → bm ≡ bs ++ more → lm ≡ ls ++ rest → em ≡ es ++ left
    → (rs : List Row) → list_all (is_row (length ks) bs ls (length es)) rs ≡ true → map (event_in km bm lm em) rs ≡ map (event_in ks bs ls es) rs
events_stay_in ks km also bs bm more ls lm rest es em left o p q r rs e = rw (o, p, q, r) (events_stay ks also bs more ls rest es left rs e)

pub extends_itself : (a : Arena) → Extends a a
extends_itself a = record {
  keys = front_same _ _ refl;
  bytes = front_same _ _ refl;
  listings = front_same _ _ refl;
  seen = front_same _ _ refl;
}

pub extends_trans : (a b c : Arena) → Extends a b → Extends b c → Extends a c
extends_trans a b c x y = record {
  keys = front_trans _ _ _ x.keys y.keys;
  bytes = front_trans _ _ _ x.bytes y.bytes;
  listings = front_trans _ _ _ x.listings y.listings;
  seen = front_trans _ _ _ x.seen y.seen;
}

-- keys were added
pub extends_keys : (a b : Arena) → IsFront (keys_in a.keys) (keys_in b.keys) → b.bytes ≡ a.bytes → b.listings ≡ a.listings → b.seen ≡ a.seen → Extends a b
extends_keys a b front bytes listings seen = record {
  keys = front;
  bytes = front_same _ _ (ap (λ v. v.items) bytes);
  listings = front_same _ _ (ap (λ v. v.items) listings);
  seen = front_same _ _ (ap (λ v. v.items) seen);
}

-- bytes were added
pub extends_bytes : (a b : Arena) → b.keys ≡ a.keys → IsFront a.bytes.items b.bytes.items → b.listings ≡ a.listings → b.seen ≡ a.seen → Extends a b
extends_bytes a b keys front listings seen = record {
  keys = front_same _ _ (ap keys_in keys);
  bytes = front;
  listings = front_same _ _ (ap (λ v. v.items) listings);
  seen = front_same _ _ (ap (λ v. v.items) seen);
}

module _ (a b : Arena) (x : Extends a b) (rs : List Row) (e : list_all (is_row_of a) rs ≡ true) where
  pub valid_stays : list_all (is_row_of b) rs ≡ true
  valid_stays =
      rows_stay_in (keys_in a.keys) (keys_in b.keys) x.keys.0 a.bytes.items b.bytes.items x.bytes.0 a.listings.items b.listings.items x.listings.0
      x.keys.1 x.bytes.1 x.listings.1
      (length a.seen.items) (length b.seen.items) (omega (arith, ap length x.seen.1, length-append a.seen.items x.seen.0)) rs e

  pub same_events : map (event_of_row b) rs ≡ map (event_of_row a) rs
  same_events =
      events_stay_in (keys_in a.keys) (keys_in b.keys) x.keys.0 a.bytes.items b.bytes.items x.bytes.0 a.listings.items b.listings.items x.listings.0
      (map (entry_of_seen a) a.seen.items) (map (entry_of_seen b) b.seen.items) (map (entry_of_seen b) x.seen.0) x.keys.1 x.bytes.1 x.listings.1
      (ap (map (entry_of_seen b)) x.seen.1 ∙
      (map-append (entry_of_seen b) a.seen.items x.seen.0 ∙
      ap (λ es. es ++ map (entry_of_seen b) x.seen.0)
      (same_entries_in (keys_in a.keys) (keys_in b.keys) a.bytes.items b.bytes.items x.keys x.bytes a.seen.items a.there))) rs
      (subst (λ n. list_all (is_row (length (keys_in a.keys)) a.bytes.items a.listings.items n) rs ≡ true) (sym (length-map a.seen.items (entry_of_seen a))) e)

-- a listing that a row names
pub found_listing : (k n : ℕ) (ls : List Listing) (i : ℕ) (l : Listing) → l ≡ get_or ls i l → is_listing k n (slice_get ls i) ≡ true → slice_get ls i ≡ Some l
found_listing k n [] i l e there = absurd (false≢true there)
found_listing k n (x ∷ xs) zero l e there = ap Some (sym e)
found_listing k n (x ∷ xs) (suc i) l e there = found_listing k n xs i l e there

-- the place of a listing that a row names
pub listing_within : (k n : ℕ) (ls : List Listing) (i : ℕ) → is_listing k n (slice_get ls i) ≡ true → i < length ls
listing_within k n [] i there = absurd (false≢true there)
listing_within k n (x ∷ xs) zero there = omega arith
listing_within k n (x ∷ xs) (suc i) there = let less = listing_within k n xs i there in omega (arith, less)

-- the keys that a listing names
pub bounds_within : (k n : ℕ) (l : Listing) → is_listing k n (Some l) ≡ true → (l.low < k) × (l.high < k)
bounds_within k n l there =
    let (low, rest) = and_parts (nat_lt l.low k) _ there in
    (ltb-true l.low k low, ltb-true l.high k (and_parts (nat_lt l.high k) _ rest).0)

-- one more row, if there was room for it
pub all_with : {A : Type 0} (f : A → Bool) (xs : List A) (x : A) (more : Bool) → list_all f xs ≡ true → f x ≡ true
    → list_all f (if more then xs ++ x ∷ [] else xs) ≡ true
all_with f xs x false e here = e
all_with f [] x true e here = and_from (f x) true here refl
all_with f (y ∷ ys) x true e here =
    let (first, rest) = and_parts (f y) _ e in
    and_from _ _ first (all_with f ys x true rest here)

pub on_err : {A E P : Type 0} (r : Result A E) → P → OnErr r P
on_err (Ok x) p = tt
on_err (Err e) p = p

-- where many more keys get numbers, fewer do
pub numbers_less : (keys : KeyTable) (places n m : ℕ) → CanNumber keys places (n + m) → CanNumber keys places m
numbers_less keys places n m room =
    let enough = room.enough in
    record { more = takes_less keys n m room.more; enough = omega (arith, enough) }
