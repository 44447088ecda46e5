use Rattle.std.proofs.Common.{◌≡◌, ◌∙◌, ◌<◌, Some, ap, length, map, subst, sym, true}
use Rattle.std.specs.Prelude.{nat_lt}
use Rattle.std.proofs.lemmas.Bool.{and_parts, ltb-true}
use Rattle.adya_keys.specs.Machinery.KeyTables.{keys_in}
use Rattle.adya_values.specs.Meaning.Histories.{Delete, Read, Write}
use Rattle.adya_values.specs.Mirror.Events.{event_of_row}
use Rattle.adya_keys.specs.Mirror.{value_of}
use Rattle.adya_values.specs.Machinery.Packed.{entry_of_seen, is_listing, is_row_of, scan_in}
use Rattle.adya_keys.specs.Machinery.Within.{key_at}
use Rattle.adya_values.specs.declared.arena.Listing.{Listing}
use Rattle.adya_values.proofs.PackedRows.{found_listing, listing_within}
use Rattle.adya_values.proofs.arena.Arena.event.Goals as goal

pub key-requires : goal.key-requires
key-requires c =
    let a = c.args.self.now in
    let n = length (keys_in a.keys) in
    ltb-true c.in-Write.key n (and_parts (nat_lt c.in-Write.key n) _ (subst (λ r. is_row_of a r ≡ true) c.in-Write.is c.requires)).0

pub value-requires : goal.value-requires
value-requires c =
    let a = c.args.self.now in
    (and_parts (nat_lt c.in-Write.key (length (keys_in a.keys))) _ (subst (λ r. is_row_of a r ≡ true) c.in-Write.is c.requires)).1

pub key-requires-in-Delete : goal.key-requires-in-Delete
key-requires-in-Delete c =
    let a = c.args.self.now in
    ltb-true c.in-Delete.key (length (keys_in a.keys)) (subst (λ r. is_row_of a r ≡ true) c.in-Delete.is c.requires)

pub key-requires-in-Read : goal.key-requires-in-Read
key-requires-in-Read c =
    let a = c.args.self.now in
    let n = length (keys_in a.keys) in
    ltb-true c.in-Read.key n (and_parts (nat_lt c.in-Read.key n) _ (subst (λ r. is_row_of a r ≡ true) c.in-Read.is c.requires)).0

pub value-requires-in-Read : goal.value-requires-in-Read
value-requires-in-Read c =
    let a = c.args.self.now in
    (and_parts (nat_lt c.in-Read.key (length (keys_in a.keys))) _ (subst (λ r. is_row_of a r ≡ true) c.in-Read.is c.requires)).1

pub scan-requires : goal.scan-requires
scan-requires c =
    let a = c.args.self.now in
    subst (λ (l : Listing). is_listing (length (keys_in a.keys)) (length a.seen.items) (Some l) ≡ true) (sym c.short.ensures)
    (subst (λ r. is_row_of a r ≡ true) c.in-Scan.is c.requires)

pub index-requires : goal.index-requires
index-requires c =
    let a = c.args.self.now in
    let there = subst (λ r. is_row_of a r ≡ true) c.in-Long.is c.requires in
    subst (λ n. c.in-Long.listing < n) (sym a.listings.ok.0) (listing_within (length (keys_in a.keys)) (length a.seen.items) a.listings.items c.in-Long.listing there)

pub scan-requires-in-Long : goal.scan-requires-in-Long
scan-requires-in-Long c =
    let a = c.args.self.now in
    let there = subst (λ r. is_row_of a r ≡ true) c.in-Long.is c.requires in
    let found = found_listing (length (keys_in a.keys)) (length a.seen.items) a.listings.items c.in-Long.listing c.index.result.now c.index.ensures there in
    subst (λ o. is_listing (length (keys_in a.keys)) (length a.seen.items) o ≡ true) found there

pub returns-in-Write : goal.returns-in-Write
returns-in-Write c =
    let a = c.args.self.now in
    let w = c.in-Write in
    ap (λ k. Write w.txn k w.m (value_of c.value.result)) c.key.ensures ∙
    (ap (Write w.txn (key_at (keys_in a.keys) w.key) w.m) c.value.ensures ∙ ap (event_of_row a) (sym w.is))

pub returns-in-Delete : goal.returns-in-Delete
returns-in-Delete c =
    ap (λ k. Delete c.in-Delete.txn k c.in-Delete.m) c.key-in-Delete.ensures ∙ ap (event_of_row c.args.self.now) (sym c.in-Delete.is)

pub returns-in-Read : goal.returns-in-Read
returns-in-Read c =
    let a = c.args.self.now in
    let r = c.in-Read in
    ap (λ k. Read r.txn (record { key = k; txn = r.writer; m = r.m }) (value_of c.value-in-Read.result)) c.key-in-Read.ensures ∙
    (ap (Read r.txn (record { key = key_at (keys_in a.keys) r.key; txn = r.writer; m = r.m })) c.value-in-Read.ensures ∙ ap (event_of_row a) (sym r.is))

pub returns-in-Scan : goal.returns-in-Scan
returns-in-Scan c =
    let a = c.args.self.now in
    c.scan.ensures ∙
    (ap (λ (l : Listing). scan_in (keys_in a.keys) (map (entry_of_seen a) a.seen.items) c.in-Scan.txn (Some l)) c.short.ensures ∙
    ap (event_of_row a) (sym c.in-Scan.is))

pub returns-in-Long : goal.returns-in-Long
returns-in-Long c =
    let a = c.args.self.now in
    let there = subst (λ r. is_row_of a r ≡ true) c.in-Long.is c.requires in
    let found = found_listing (length (keys_in a.keys)) (length a.seen.items) a.listings.items c.in-Long.listing c.index.result.now c.index.ensures there in
    c.scan-in-Long.ensures ∙
    (sym (ap (scan_in (keys_in a.keys) (map (entry_of_seen a) a.seen.items) c.in-Long.txn) found) ∙ ap (event_of_row a) (sym c.in-Long.is))

pub returns-in-Commit : goal.returns-in-Commit
returns-in-Commit c = ap (event_of_row c.args.self.now) (sym c.in-Commit.is)

pub returns-in-Abort : goal.returns-in-Abort
returns-in-Abort c = ap (event_of_row c.args.self.now) (sym c.in-Abort.is)
