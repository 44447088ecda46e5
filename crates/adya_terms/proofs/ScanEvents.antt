-- What a scan is, and what isn't one.
use Rattle.std.proofs.Common.{◌≡◌, ◌&&◌, Bool, true, false, List, map, Some, None, refl, sym, ◌∙◌, ap}
use Rattle.std.specs.List.{list_all}
use Rattle.std.proofs.lemmas.Option.{none-some, same_Some}
use Rattle.adya_keys.specs.Meaning.Keys.{Key}
use Rattle.adya_values.specs.Meaning.Histories.{Event, Write, Delete, Read, Scan, Commit, Abort}
use Rattle.adya_values.specs.Meaning.Events.{last_write, observed, txn_of}
use Rattle.adya_values.specs.Computing.Faults.{is_none_or, is_rising, sees_own}
use Rattle.adya_values.specs.Mirror.Numbers.{bounds, seen_entry}
use Rattle.adya_values.specs.declared.events.Events.{Events}
use Rattle.adya_values.specs.declared.seen.Seen.{Seen}
use Rattle.adya_terms.specs.declared.scans.Scan.{Scan as ScanValue}
use Rattle.adya_terms.specs.Machinery.Scans.{listed}

pub scan_is : (e : Event) (b : Key × Key) → bounds e ≡ Some b → e ≡ Scan (txn_of e) b.0 b.1 (observed e)
scan_is (Scan t low high es) b is = ap (λ (c : Key × Key). Scan t c.0 c.1 es) (same_Some _ b is)
scan_is (Write t k m v) b is = absurd (none-some b is)
scan_is (Delete t k m) b is = absurd (none-some b is)
scan_is (Read t r v) b is = absurd (none-some b is)
scan_is (Commit t) b is = absurd (none-some b is)
scan_is (Abort t) b is = absurd (none-some b is)

pub rises_unless_scan : (e : Event) → bounds e ≡ None → is_rising e ≡ true
rises_unless_scan (Scan t low high es) is = absurd (none-some (low, high) (sym is))
rises_unless_scan (Write t k m v) is = refl
rises_unless_scan (Delete t k m) is = refl
rises_unless_scan (Read t r v) is = refl
rises_unless_scan (Commit t) is = refl
rises_unless_scan (Abort t) is = refl

and_true : (b : Bool) → b ≡ (b && true)
and_true true = refl
and_true false = refl

pub own_unless_scan : (before : List Event) (e : Event) → bounds e ≡ None
    → sees_own before e ≡ list_all (λ o. is_none_or (last_write (txn_of e) o.version.key before) o) (observed e)
own_unless_scan before (Scan t low high es) is = absurd (none-some (low, high) (sym is))
own_unless_scan before (Read t r v) is = and_true _
own_unless_scan before (Write t k m v) is = refl
own_unless_scan before (Delete t k m) is = refl
own_unless_scan before (Commit t) is = refl
own_unless_scan before (Abort t) is = refl

-- the scan that the code made of its bounds and what it lists
pub scan_shown : (s : ScanValue) (es : Events) (ss : List Seen) (e : Event) (b : Key × Key) → s.events.now ≡ es → s.low ≡ b.0 → s.high ≡ b.1 → s.seen.now ≡ ss
    → observed e ≡ map (seen_entry es) ss → Some b ≡ bounds e → Scan (txn_of e) s.low s.high (listed s) ≡ e
scan_shown s es ss e b of low high seen sees is =
    ap (λ k. Scan (txn_of e) k s.high (listed s)) low ∙
    (ap (λ k. Scan (txn_of e) b.0 k (listed s)) high ∙
    (ap (λ x. Scan (txn_of e) b.0 b.1 (map (seen_entry x) s.seen.now)) of ∙
    (ap (λ xs. Scan (txn_of e) b.0 b.1 (map (seen_entry es) xs)) seen ∙
    (ap (Scan (txn_of e) b.0 b.1) (sym sees) ∙ sym (scan_is e b (sym is))))))
