use Rattle.std.proofs.Common.{◌≡◌, true, List, map, option_map, sym, ◌∙◌, ap, subst}
use Rattle.std.specs.List.{list_all}
use Rattle.std.proofs.lemmas.Result.{on_ok_weaker}
use Rattle.adya_values.specs.Meaning.Events.{observed}
use Rattle.adya_values.specs.Meaning.Histories.{Entry, Scan}
use Rattle.adya_keys.specs.Meaning.Keys.{keys_rise}
use Rattle.adya_values.specs.Computing.Faults.{first_fault}
use Rattle.adya_values.specs.Clauses.Rules.{IsRising}
use Rattle.adya_values.specs.Mirror.Numbers.{both_at, keys_of, has_seen}
use Rattle.adya_dsg.specs.Machinery.VersionOrders.{ordered_entry, ordered_events, ordered_history, numbered}
use Rattle.adya_dsg.specs.Machinery.Choices.{choices, event_at}
use Rattle.lemmas.proofs.Members.{Contains-slice_get}
use Rattle.lemmas.proofs.Options.{none_from}
use Rattle.adya_dsg.proofs.EventsAt.{found_at, scan_is}
use Rattle.adya_dsg.proofs.RisingEntries.{rising_at}
use Rattle.adya_dsg.proofs.selection.Selector.select.Goals as goal

pub select_scanned-requires-clause-rise : goal.select_scanned-requires-clause-rise
select_scanned-requires-clause-rise c =
    let g = c.args.versions.now in
    let h = ordered_history g in
    let i = c.args.event in
    let e = event_at h i in
    let w = ordered_entry g in
    let is_checked = c.checked_iff_no_fault.ensures.sound h (none_from (first_fault h) g.checked.now.checked) in
    let scan = scan_is e (numbered g c.in-Some.low) (numbered g c.in-Some.high)
    (sym c.bounds.ensures.keys ∙ ap (option_map (both_at (keys_of (ordered_events g)))) c.in-Some.is) in
    let sees = c.observed-observed.ensures.entries ∙ ap (map w) (sym c.seen-seen.ensures) in
    subst (λ (ws : List Entry). keys_rise (map (λ x. x.version.key) ws) ≡ true) sees
    (subst IsRising scan (rising_at h is_checked e (Contains-slice_get h.events i e (found_at h.events i c.requires)))).1

pub returns-in-Some-clause-choices : goal.returns-in-Some-clause-choices
returns-in-Some-clause-choices c =
    let g = c.args.versions.now in
    let h = ordered_history g in
    let e = event_at h c.args.event in
    let w = ordered_entry g in
    let low = numbered g c.in-Some.low in
    let high = numbered g c.in-Some.high in
    let scan = scan_is e low high
    (sym c.bounds.ensures.keys ∙ ap (option_map (both_at (keys_of (ordered_events g)))) c.in-Some.is) in
    let sees = c.observed-observed.ensures.entries ∙ ap (map w) (sym c.seen-seen.ensures) in
    on_ok_weaker c.select_scanned.result
    (λ is. is ∙
    ap (choices h)
    (sym (scan ∙ (ap (λ t. Scan t low high (observed e)) (sym c.txn-txn.ensures) ∙ ap (λ ws. Scan c.txn-txn.result low high ws) sees))))
    c.select_scanned.ensures.choices

pub checked_iff_no_fault-requires : goal.checked_iff_no_fault-requires
checked_iff_no_fault-requires c = tt

pub seen-seen-requires : goal.seen-seen-requires
seen-seen-requires c = tt

pub bounds-requires : goal.bounds-requires
bounds-requires c = tt

pub txn-txn-requires : goal.txn-txn-requires
txn-txn-requires c = c.requires

pub observed-observed-requires : goal.observed-observed-requires
observed-observed-requires c = c.requires

pub select_scanned-requires-clause-none : goal.select_scanned-requires-clause-none
select_scanned-requires-clause-none c = c.clear.ensures.items

pub select_scanned-requires-clause-low : goal.select_scanned-requires-clause-low
select_scanned-requires-clause-low c = c.in-Some.ensures.there.0

pub select_scanned-requires-clause-high : goal.select_scanned-requires-clause-high
select_scanned-requires-clause-high c = c.in-Some.ensures.there.1

pub select_scanned-requires-clause-there : goal.select_scanned-requires-clause-there
select_scanned-requires-clause-there c = ap (list_all (has_seen (ordered_events c.args.versions.now))) c.seen-seen.ensures ∙ c.observed-observed.ensures.there

pub select_read-requires-clause-none : goal.select_read-requires-clause-none
select_read-requires-clause-none c = c.clear.ensures.items

pub select_read-requires-clause-there : goal.select_read-requires-clause-there
select_read-requires-clause-there c = ap (list_all (has_seen (ordered_events c.args.versions.now))) c.seen-seen.ensures ∙ c.observed-observed.ensures.there

pub returns-in-Some-clause-within : goal.returns-in-Some-clause-within
returns-in-Some-clause-within c = c.select_scanned.ensures.within

pub returns-in-None-clause-within : goal.returns-in-None-clause-within
returns-in-None-clause-within c = c.select_read.ensures.within
