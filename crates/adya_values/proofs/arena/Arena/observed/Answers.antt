use Rattle.std.proofs.Common.{◌≡◌, ◌∙◌, ◌<◌, ◌∷◌, [], Some, ap, refl, sym, subst, length, map, true}
use Rattle.std.specs.Prelude.{nat_lt}
use Rattle.std.proofs.lemmas.Bool.{and_from, and_parts}
use Rattle.adya_keys.specs.Machinery.KeyTables.{keys_in}
use Rattle.adya_values.specs.Meaning.Events.{observed}
use Rattle.adya_values.specs.Meaning.Histories.{Live}
use Rattle.adya_values.specs.Mirror.Events.{event_of_row}
use Rattle.adya_values.specs.declared.arena.Listing.{Listing}
use Rattle.adya_values.specs.Machinery.Seen.{content_in, is_content}
use Rattle.adya_keys.specs.Machinery.Within.{key_at, part}
use Rattle.adya_values.specs.Machinery.Packed.{entry_of_seen, is_listing, is_row_of, scan_in}
use Rattle.adya_values.proofs.PackedParts.{content_kept}
use Rattle.adya_keys.proofs.Within.{part-map}
use Rattle.adya_values.proofs.PackedRows.{found_listing, listing_within}
use Rattle.adya_values.proofs.arena.Arena.observed.Goals as goal

kept : (c : goal.After-new)
    → (is_content c.args.self.now.bytes.items c.in-Read.at c.in-Read.len ≡ true)
    × (content_in c.args.self.now.bytes.items c.in-Read.at c.in-Read.len ≡ Live (part c.in-Read.at c.in-Read.len c.args.self.now.bytes.items))
kept c =
    let a = c.args.self.now in
    let r = c.in-Read in
    let bs = a.bytes.items in
    let there = (and_parts (nat_lt r.key (length (keys_in a.keys))) _ (subst (λ s. is_row_of a s ≡ true) r.is c.requires)).1 in
    content_kept bs (part r.at r.len bs) r.at r.len (record { there = there; value = refl }) (and_parts _ _ there).1

pub returns-in-Read-clause-entries : goal.returns-in-Read-clause-entries
returns-in-Read-clause-entries c =
    let a = c.args.self.now in
    let r = c.in-Read in
    ap (λ x. record { version = record { key = key_at (keys_in a.keys) r.key; txn = r.writer; m = r.m }; content = x } ∷ [])
    (ap (λ p. content_in a.bytes.items p r.len) c.new.ensures ∙ (kept c).1) ∙
    ap (λ s. observed (event_of_row a s)) (sym r.is)

pub returns-in-Read-clause-there : goal.returns-in-Read-clause-there
returns-in-Read-clause-there c =
    let a = c.args.self.now in
    let r = c.in-Read in
    let key = (and_parts (nat_lt r.key (length (keys_in a.keys))) _ (subst (λ s. is_row_of a s ≡ true) r.is c.requires)).0 in
    and_from _ true (and_from _ _ key (subst (λ p. is_content a.bytes.items p r.len ≡ true) (sym c.new.ensures) (kept c).0)) refl

pub listed-requires : goal.listed-requires
listed-requires c =
    let a = c.args.self.now in
    subst (λ (l : Listing). is_listing (length (keys_in a.keys)) (length a.seen.items) (Some l) ≡ true) (sym c.short.ensures)
    (subst (λ r. is_row_of a r ≡ true) c.in-Scan.is c.requires)

pub index-requires : goal.index-requires
index-requires c =
    let a = c.args.self.now in
    let there = subst (λ r. is_row_of a r ≡ true) c.in-Long.is c.requires in
    subst (λ n. c.in-Long.listing < n) (sym a.listings.ok.0) (listing_within (length (keys_in a.keys)) (length a.seen.items) a.listings.items c.in-Long.listing there)

pub listed-requires-in-Long : goal.listed-requires-in-Long
listed-requires-in-Long c =
    let a = c.args.self.now in
    let there = subst (λ r. is_row_of a r ≡ true) c.in-Long.is c.requires in
    let found = found_listing (length (keys_in a.keys)) (length a.seen.items) a.listings.items c.in-Long.listing c.index.result.now c.index.ensures there in
    subst (λ o. is_listing (length (keys_in a.keys)) (length a.seen.items) o ≡ true) found there

pub returns-in-Scan-clause-there : goal.returns-in-Scan-clause-there
returns-in-Scan-clause-there c = c.listed.ensures.there

pub returns-in-Long-clause-there : goal.returns-in-Long-clause-there
returns-in-Long-clause-there c = c.listed-in-Long.ensures.there

pub returns-in-Scan-clause-entries : goal.returns-in-Scan-clause-entries
returns-in-Scan-clause-entries c =
    let a = c.args.self.now in
    let l = c.short.result in
    let es = map (entry_of_seen a) a.seen.items in
    ap (map (entry_of_seen a)) c.listed.ensures.seen ∙
    (sym (part-map (entry_of_seen a) l.from l.count a.seen.items) ∙
    (ap (λ (x : Listing). part x.from x.count es) c.short.ensures ∙ ap (λ r. observed (event_of_row a r)) (sym c.in-Scan.is)))

pub returns-in-Long-clause-entries : goal.returns-in-Long-clause-entries
returns-in-Long-clause-entries c =
    let a = c.args.self.now in
    let l = c.index.result.now in
    let es = map (entry_of_seen a) a.seen.items in
    let there = subst (λ r. is_row_of a r ≡ true) c.in-Long.is c.requires in
    let found = found_listing (length (keys_in a.keys)) (length a.seen.items) a.listings.items c.in-Long.listing l c.index.ensures there in
    ap (map (entry_of_seen a)) c.listed-in-Long.ensures.seen ∙
    (sym (part-map (entry_of_seen a) l.from l.count a.seen.items) ∙
    (sym (ap (λ o. observed (scan_in (keys_in a.keys) es c.in-Long.txn o)) found) ∙ ap (λ r. observed (event_of_row a r)) (sym c.in-Long.is)))

pub returns-in-Write : goal.returns-in-Write
returns-in-Write c = record { entries = ap (λ r. observed (event_of_row c.args.self.now r)) (sym c.in-Write.is); there = refl }

pub returns-in-Delete : goal.returns-in-Delete
returns-in-Delete c = record { entries = ap (λ r. observed (event_of_row c.args.self.now r)) (sym c.in-Delete.is); there = refl }

pub returns-in-Commit : goal.returns-in-Commit
returns-in-Commit c = record { entries = ap (λ r. observed (event_of_row c.args.self.now r)) (sym c.in-Commit.is); there = refl }

pub returns-in-Abort : goal.returns-in-Abort
returns-in-Abort c = record { entries = ap (λ r. observed (event_of_row c.args.self.now r)) (sym c.in-Abort.is); there = refl }
