use Rattle.std.proofs.Common.{◌≡◌, ◌∙◌, ℕ, Bool, List, option_and_then, sym, ap}
use Rattle.std.specs.List.{list_all}
use Rattle.adya_values.specs.declared.events.Events.{Events}
use Rattle.adya_values.specs.Meaning.Histories.{Entry, Scan}
use Rattle.adya_values.specs.Meaning.Events.{last_write, observed, txn_of}
use Rattle.adya_values.specs.Mirror.Events.{events_of}
use Rattle.adya_values.specs.Mirror.Numbers.{both_at, bounds, seen_in}
use Rattle.adya_values.specs.Computing.Faults as faults
use Rattle.adya_terms.specs.Machinery.OwnWrites.{place_of}
use Rattle.adya_terms.specs.Machinery.Scans.{listed}
use Rattle.adya_terms.specs.Machinery.Tables.{own, written_at}
use Rattle.adya_terms.specs.Machinery.Telling.{keys_in}
use Rattle.adya_terms.proofs.Found.{found_is}
use Rattle.adya_terms.proofs.ScanEvents.{own_unless_scan, scan_shown}
use Rattle.adya_terms.proofs.Sights.{all_seen}
use Rattle.adya_terms.proofs.rules.sees_own.Goals as goal

pub returns-in-None : goal.returns-in-None
returns-in-None c before e m found =
    let es = c.args.tables.now.writes.events.now in
    let t = c.txn_at-txn.result in
    let of : txn_of e ≡ t = found_is txn_of _ e t c.txn_at-txn.ensures found in
    let own : ℕ → Entry → Bool = λ u o. faults.is_none_or (last_write u o.version.key before) o in
    let none = sym (ap (option_and_then bounds) found) ∙ sym c.in-None.ensures.keys in
    c.are_own.ensures before m ∙
    sym (own_unless_scan before e none ∙
    (ap (λ u. list_all (own u) (observed e)) of ∙
    all_seen (own t) es e (seen_in c.observed-observed.result) c.seen.result.now (found_is observed _ e _ c.observed-observed.ensures.entries found) c.seen.ensures))

pub returns-in-Some : goal.returns-in-Some
returns-in-Some c before e m found =
    let tables = c.args.tables.now in
    let t = c.txn_at-txn.result in
    let scan = c.of-scan.result in
    let of : txn_of e ≡ t = found_is txn_of _ e t c.txn_at-txn.ensures found in
    let places = λ (k : List ℕ). ap (λ (x : Events). written_at (events_of x) (place_of tables.writes (own t k))) c.of-scan.ensures.events ∙ m.last_is t k in
    let shown = scan_shown scan tables.writes.events.now (seen_in c.observed-observed.result) e (both_at (keys_in tables) (c.in-Some.low, c.in-Some.high))
    c.of-scan.ensures.events c.of-scan.ensures.low c.of-scan.ensures.high (c.of-scan.ensures.seen ∙ c.seen-in-Some.ensures)
    (found_is observed _ e _ c.observed-observed.ensures.entries found) (c.in-Some.ensures.keys ∙ ap (option_and_then bounds) found) in
    c.lists_own.ensures before places ∙
    (ap (λ u. faults.sees_own before (Scan u scan.low scan.high (listed scan))) (sym of) ∙ ap (faults.sees_own before) shown)
