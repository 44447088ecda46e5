use Rattle.std.proofs.Common.{◌≡◌, ◌∙◌, ◌&&◌, ◌==◌, ℕ, zero, suc, List, Option, None, Some, ap, arith, length, map, refl, slice_get, subst, sym, true}
use Rattle.std.specs.Prelude.{nat_lt}
use Rattle.std.proofs.lemmas.Bool.{and_parts, ltb-true, ne_eqb}
use Rattle.adya_values.specs.Computing.Faults.{content_eq, is_entry}
use Rattle.adya_keys.specs.Machinery.KeyTables.{keys_in}
use Rattle.adya_values.specs.Machinery.Packed.{entry_of_seen, is_row_of, scan_in}
use Rattle.adya_values.specs.Machinery.Seen.{content_in}
use Rattle.adya_keys.specs.Machinery.Within.{part}
use Rattle.adya_values.specs.Meaning.Events.{written}
use Rattle.adya_values.specs.Meaning.Histories.{Dead, Entry, Live}
use Rattle.adya_keys.specs.Meaning.Keys.{Bytes, Key}
use Rattle.adya_values.specs.Mirror.Events.{event_of_row}
use Rattle.adya_values.specs.declared.arena.Listing.{Listing}
use Rattle.adya_values.proofs.arena.Arena.wrote.Goals as goal

pub is_version-requires-clause-version : goal.is_version-requires-clause-version
is_version-requires-clause-version c =
    let a = c.args.self.now in
    let n = length (keys_in a.keys) in
    ltb-true c.in-Write.key n (and_parts (nat_lt c.in-Write.key n) _ (subst (λ r. is_row_of a r ≡ true) c.in-Write.is c.requires.row)).0

pub is_version-requires-clause-seen : goal.is_version-requires-clause-seen
is_version-requires-clause-seen c = c.requires.seen

pub is_content-requires-clause-value : goal.is_content-requires-clause-value
is_content-requires-clause-value c =
    let a = c.args.self.now in
    (and_parts (nat_lt c.in-Write.key (length (keys_in a.keys))) _ (subst (λ r. is_row_of a r ≡ true) c.in-Write.is c.requires.row)).1

pub is_content-requires-clause-seen : goal.is_content-requires-clause-seen
is_content-requires-clause-seen c = (and_parts (nat_lt c.args.seen.now.key (length (keys_in c.args.self.now.keys))) _ c.requires.seen).1

pub is_version-requires-in-Delete-clause-version : goal.is_version-requires-in-Delete-clause-version
is_version-requires-in-Delete-clause-version c =
    let a = c.args.self.now in
    ltb-true c.in-Delete.key (length (keys_in a.keys)) (subst (λ r. is_row_of a r ≡ true) c.in-Delete.is c.requires.row)

pub is_version-requires-in-Delete-clause-seen : goal.is_version-requires-in-Delete-clause-seen
is_version-requires-in-Delete-clause-seen c = c.requires.seen

pub returns-then-is_version : goal.returns-then-is_version
returns-then-is_version c =
    let a = c.args.self.now in
    let s = c.args.seen.now in
    let w = c.in-Write in
    let bs = a.bytes.items in
    c.is_content.ensures ∙
    (ap (λ b. b && content_eq (Live (part w.at w.len bs)) (content_in bs s.at s.len)) (sym c.if-is_version.true ∙ c.is_version.ensures) ∙
    ap (λ r. is_entry (written (event_of_row a r)) (entry_of_seen a s)) (sym w.is))

pub returns-else-is_version : goal.returns-else-is_version
returns-else-is_version c =
    let a = c.args.self.now in
    let s = c.args.seen.now in
    let w = c.in-Write in
    let bs = a.bytes.items in
    c.if-is_version.false ∙
    (ap (λ b. b && content_eq (Live (part w.at w.len bs)) (content_in bs s.at s.len)) (sym c.if-is_version.false ∙ c.is_version.ensures) ∙
    ap (λ r. is_entry (written (event_of_row a r)) (entry_of_seen a s)) (sym w.is))

dead : (bs : Bytes) (at n : ℕ) → (n == 0) ≡ content_eq Dead (content_in bs at n)
dead bs at zero = refl
dead bs at (suc n) = ne_eqb (suc n) 0 (omega arith)

pub returns-then-is_version-2 : goal.returns-then-is_version-2
returns-then-is_version-2 c =
    let a = c.args.self.now in
    let s = c.args.seen.now in
    let bs = a.bytes.items in
    c.is_dead.ensures ∙
    (dead bs s.at s.len ∙
    (ap (λ b. b && content_eq Dead (content_in bs s.at s.len)) (sym c.if-is_version-2.true ∙ c.is_version-in-Delete.ensures) ∙
    ap (λ r. is_entry (written (event_of_row a r)) (entry_of_seen a s)) (sym c.in-Delete.is)))

pub returns-else-is_version-2 : goal.returns-else-is_version-2
returns-else-is_version-2 c =
    let a = c.args.self.now in
    let s = c.args.seen.now in
    c.if-is_version-2.false ∙
    (ap (λ b. b && content_eq Dead (content_in a.bytes.items s.at s.len)) (sym c.if-is_version-2.false ∙ c.is_version-in-Delete.ensures) ∙
    ap (λ r. is_entry (written (event_of_row a r)) (entry_of_seen a s)) (sym c.in-Delete.is))

pub returns-in-Read : goal.returns-in-Read
returns-in-Read c = ap (λ r. is_entry (written (event_of_row c.args.self.now r)) (entry_of_seen c.args.self.now c.args.seen.now)) (sym c.in-Read.is)

pub returns-in-Scan : goal.returns-in-Scan
returns-in-Scan c = ap (λ r. is_entry (written (event_of_row c.args.self.now r)) (entry_of_seen c.args.self.now c.args.seen.now)) (sym c.in-Scan.is)

no_write : (ks : List Key) (es : List Entry) (t : ℕ) (o : Option Listing) → written (scan_in ks es t o) ≡ None
no_write ks es t None = refl
no_write ks es t (Some l) = refl

pub returns-in-Long : goal.returns-in-Long
returns-in-Long c =
    let a = c.args.self.now in
    let e = entry_of_seen a c.args.seen.now in
    sym (ap (λ w. is_entry w e) (no_write (keys_in a.keys) (map (entry_of_seen a) a.seen.items) c.in-Long.txn (slice_get a.listings.items c.in-Long.listing))) ∙
    ap (λ r. is_entry (written (event_of_row a r)) e) (sym c.in-Long.is)

pub returns-in-Commit : goal.returns-in-Commit
returns-in-Commit c = ap (λ r. is_entry (written (event_of_row c.args.self.now r)) (entry_of_seen c.args.self.now c.args.seen.now)) (sym c.in-Commit.is)

pub returns-in-Abort : goal.returns-in-Abort
returns-in-Abort c = ap (λ r. is_entry (written (event_of_row c.args.self.now r)) (entry_of_seen c.args.self.now c.args.seen.now)) (sym c.in-Abort.is)
