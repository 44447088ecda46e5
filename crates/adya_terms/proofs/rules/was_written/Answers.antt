use Rattle.std.proofs.Common.{◌∙◌, Bool, refl, sym}
use Rattle.std.specs.List.{filter_map, list_any}
use Rattle.adya_values.specs.declared.seen.Seen.{Seen}
use Rattle.adya_values.specs.Meaning.Histories.{Entry}
use Rattle.adya_values.specs.Meaning.Events.{observed, written}
use Rattle.adya_values.specs.Mirror.Numbers.{seen_entry, seen_in}
use Rattle.adya_values.specs.Computing.Faults.{entry_eq}
use Rattle.adya_terms.proofs.Found.{found_is}
use Rattle.adya_terms.proofs.SameTests.{fails_here, passes_end, passes_here}
use Rattle.adya_terms.proofs.Sights.{all_seen}
use Rattle.adya_terms.proofs.rules.was_written.Goals as goal

pub loop-seen-init : goal.loop-seen-init
loop-seen-init c before m k = refl

pub loop-seen-preserved : goal.loop-seen-preserved
loop-seen-preserved c before m k =
    let es = c.args.tables.now.writes.events.now in
    let test : Seen → Bool = λ s. list_any (entry_eq (seen_entry es s)) (filter_map written before) in
    c.loop-seen.invariant before m k ∙
    passes_here test c.seen-seen-items.result.now c.loop-seen.seen-index c.seen-item.result c.loop-seen-test.true c.seen-item.is
    (sym (c.is_written.ensures before m k) ∙ c.if-not-is_written.false)

pub returns-then-not-is_written : goal.returns-then-not-is_written
returns-then-not-is_written c before e m k found =
    let es = c.args.tables.now.writes.events.now in
    let items = c.seen-seen-items.result.now in
    let was : Entry → Bool = λ o. list_any (entry_eq o) (filter_map written before) in
    sym (all_seen was es e (seen_in c.observed-observed.result) items (found_is observed _ e _ c.observed-observed.ensures.entries found) c.seen-seen-items.ensures ∙
    (c.loop-seen.invariant before m k ∙
    fails_here (λ s. was (seen_entry es s)) items c.loop-seen.seen-index c.seen-item.result c.loop-seen-test.true c.seen-item.is
    (sym (c.is_written.ensures before m k) ∙ c.if-not-is_written.true)))

pub returns : goal.returns
returns c before e m k found =
    let es = c.args.tables.now.writes.events.now in
    let items = c.seen-seen-items.result.now in
    let was : Entry → Bool = λ o. list_any (entry_eq o) (filter_map written before) in
    sym (all_seen was es e (seen_in c.observed-observed.result) items (found_is observed _ e _ c.observed-observed.ensures.entries found) c.seen-seen-items.ensures ∙
    (c.loop-seen.invariant before m k ∙ passes_end (λ s. was (seen_entry es s)) items c.loop-seen.seen-index c.loop-seen-test.false))
