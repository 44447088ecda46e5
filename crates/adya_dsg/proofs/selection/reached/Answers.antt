use Rattle.std.proofs.Common.{length, sym, ◌∙◌, arith, map, falls, le_refl, refl, ap}
use Rattle.std.proofs.lemmas.List.Sums.{AllPass-from_list_all}
use Rattle.std.proofs.lemmas.List.{drop_all}
use Rattle.std.proofs.lemmas.Option.{none-some, slice_get_past, same_Some, slice_get_read}
use Rattle.adya_dsg.specs.Machinery.Choices.{key_at}
use Rattle.adya_dsg.specs.Machinery.VersionOrders.{ordered_history, ordered_entry, ordered_events, numbered}
use Rattle.adya_values.specs.declared.seen.Seen.{Seen}
use Rattle.adya_values.specs.Meaning.Events.{listed}
use Rattle.adya_keys.specs.Meaning.Keys.{key_lt}
use Rattle.adya_values.specs.Mirror.Numbers.{has_seen}
use Rattle.adya_dsg.proofs.Listed.{passed_over}
use Rattle.adya_dsg.proofs.selection.reached.Goals as goal

pub loop-at-preserved : goal.loop-at-preserved
loop-at-preserved c = λ i l m.
    let g = c.args.versions.now in
    passed_over (ordered_entry g) c.args.seen.now c.loop-at.at c.index-seen-at.result c.loop-at-test.true
    c.index-seen-at.is (key_at (ordered_history g) i) (c.is_passed.ensures.passed c.if-not-is_passed.false i l m) ∙
    c.loop-at.invariant i l m

pub returns-clause-reached : goal.returns-clause-reached
returns-clause-reached c = λ s e.
    let seen = c.args.seen.now in
    absurd (none-some s (sym (slice_get_past seen (length seen) (omega arith)) ∙ e))

pub loop-at-init : goal.loop-at-init
loop-at-init c = λ i l m. refl

pub bounds-seen-at : goal.bounds-seen-at
bounds-seen-at c = c.loop-at-test.true

pub is_passed-requires : goal.is_passed-requires
is_passed-requires c =
    let test = has_seen (ordered_events c.args.versions.now) in
    ap test c.index-seen-at.is ∙ AllPass-from_list_all test c.args.seen.now c.requires c.loop-at.at _ c.loop-at-test.true

pub returns-then-not-is_passed-clause-same : goal.returns-then-not-is_passed-clause-same
returns-then-not-is_passed-clause-same c = c.loop-at.invariant

pub returns-then-not-is_passed-clause-reached : goal.returns-then-not-is_passed-clause-reached
returns-then-not-is_passed-clause-reached c = λ s e.
    let g = c.args.versions.now in
    let seen = c.args.seen.now in
    let there = slice_get_read seen (length seen) c.loop-at.at c.index-seen-at.result refl c.loop-at-test.true c.index-seen-at.is in
    ap (λ (x : Seen). key_lt (numbered g x.key) (key_at (ordered_history g) c.args.line)) (same_Some s c.index-seen-at.result (sym e ∙ there)) ∙
    c.is_passed.ensures.reached c.if-not-is_passed.true

pub loop-at-smaller : goal.loop-at-smaller
loop-at-smaller c = falls _ _ c.loop-at-test.true

pub returns-clause-same : goal.returns-clause-same
returns-clause-same c = λ i l m.
    let g = c.args.versions.now in
    let seen = c.args.seen.now in
    let past = drop_all (length seen) seen (le_refl (length seen)) ∙ sym (drop_all c.loop-at.at seen c.loop-at-test.false) in
    ap (λ ss. listed (key_at (ordered_history g) i) (map (ordered_entry g) ss)) past ∙ c.loop-at.invariant i l m
