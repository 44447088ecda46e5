use Rattle.std.proofs.Common.{◌≡◌, ◌∙◌, ◌<◌, Some, ap, length, map, slice_get, subst, sym, true}
use Rattle.adya_keys.specs.Machinery.KeyTables.{keys_in}
use Rattle.adya_values.specs.Mirror.Events.{event_of_row}
use Rattle.adya_values.specs.Mirror.Numbers.{bounds}
use Rattle.adya_values.specs.Machinery.Packed.{entry_of_seen, is_listing, is_row_of, listing_of, scan_in}
use Rattle.adya_values.proofs.PackedRows.{bounds_within, found_listing, listing_within}
use Rattle.adya_values.proofs.arena.Arena.bounds.Goals as goal

pub index-requires : goal.index-requires
index-requires c =
    let a = c.args.self.now in
    let there = subst (λ r. is_row_of a r ≡ true) c.in-Long.is c.requires in
    subst (λ n. c.in-Long.listing < n) (sym a.listings.ok.0) (listing_within (length (keys_in a.keys)) (length a.seen.items) a.listings.items c.in-Long.listing there)

pub returns-in-Scan-clause-keys : goal.returns-in-Scan-clause-keys
returns-in-Scan-clause-keys c = ap (λ r. bounds (event_of_row c.args.self.now r)) (sym c.in-Scan.is)

pub returns-in-Scan-clause-there : goal.returns-in-Scan-clause-there
returns-in-Scan-clause-there c =
    let a = c.args.self.now in
    bounds_within (length (keys_in a.keys)) (length a.seen.items) (listing_of c.in-Scan.low c.in-Scan.high c.in-Scan.from c.in-Scan.count)
    (subst (λ r. is_row_of a r ≡ true) c.in-Scan.is c.requires)

found : (c : goal.After-index) → slice_get c.args.self.now.listings.items c.in-Long.listing ≡ Some c.index.result.now
found c =
    let a = c.args.self.now in
    found_listing (length (keys_in a.keys)) (length a.seen.items) a.listings.items c.in-Long.listing c.index.result.now c.index.ensures
    (subst (λ r. is_row_of a r ≡ true) c.in-Long.is c.requires)

pub returns-in-Long-clause-keys : goal.returns-in-Long-clause-keys
returns-in-Long-clause-keys c =
    let a = c.args.self.now in
    sym (ap (λ o. bounds (scan_in (keys_in a.keys) (map (entry_of_seen a) a.seen.items) c.in-Long.txn o)) (found c)) ∙
    ap (λ r. bounds (event_of_row a r)) (sym c.in-Long.is)

pub returns-in-Long-clause-there : goal.returns-in-Long-clause-there
returns-in-Long-clause-there c =
    let a = c.args.self.now in
    let there = subst (λ r. is_row_of a r ≡ true) c.in-Long.is c.requires in
    bounds_within (length (keys_in a.keys)) (length a.seen.items) c.index.result.now
    (subst (λ o. is_listing (length (keys_in a.keys)) (length a.seen.items) o ≡ true) (found c) there)

pub returns-in-Write : goal.returns-in-Write
returns-in-Write c = record { keys = ap (λ r. bounds (event_of_row c.args.self.now r)) (sym c.in-Write.is); there = tt }

pub returns-in-Delete : goal.returns-in-Delete
returns-in-Delete c = record { keys = ap (λ r. bounds (event_of_row c.args.self.now r)) (sym c.in-Delete.is); there = tt }

pub returns-in-Read : goal.returns-in-Read
returns-in-Read c = record { keys = ap (λ r. bounds (event_of_row c.args.self.now r)) (sym c.in-Read.is); there = tt }

pub returns-in-Commit : goal.returns-in-Commit
returns-in-Commit c = record { keys = ap (λ r. bounds (event_of_row c.args.self.now r)) (sym c.in-Commit.is); there = tt }

pub returns-in-Abort : goal.returns-in-Abort
returns-in-Abort c = record { keys = ap (λ r. bounds (event_of_row c.args.self.now r)) (sym c.in-Abort.is); there = tt }
