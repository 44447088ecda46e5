use Rattle.std.proofs.Common.{Bool, refl, sym, ◌∙◌}
use Rattle.adya_values.specs.declared.seen.Seen.{Seen}
use Rattle.adya_values.specs.Meaning.Events.{last_write}
use Rattle.adya_values.specs.Mirror.Numbers.{has_seen, seen_entry}
use Rattle.adya_values.specs.Computing.Faults.{is_none_or}
use Rattle.adya_terms.proofs.SameTests.{fails_here, passes_at, passes_end, passes_here}
use Rattle.adya_terms.proofs.rules.are_own.Goals as goal

pub loop-seen-init : goal.loop-seen-init
loop-seen-init c before m = refl

pub is_own-requires : goal.is_own-requires
is_own-requires c =
    passes_at (has_seen c.args.tables.now.writes.events.now) c.args.observed.now c.requires c.loop-seen.seen-index c.seen-item.result
    c.loop-seen-test.true c.seen-item.is

pub returns-then-not-is_own : goal.returns-then-not-is_own
returns-then-not-is_own c before m =
    let es = c.args.tables.now.writes.events.now in
    let test : Seen → Bool = λ s. is_none_or (last_write c.args.txn (seen_entry es s).version.key before) (seen_entry es s) in
    sym (c.loop-seen.invariant before m ∙
    fails_here test c.args.observed.now c.loop-seen.seen-index c.seen-item.result c.loop-seen-test.true c.seen-item.is
    (sym (c.is_own.ensures before m) ∙ c.if-not-is_own.true))

pub loop-seen-preserved : goal.loop-seen-preserved
loop-seen-preserved c before m =
    let es = c.args.tables.now.writes.events.now in
    let test : Seen → Bool = λ s. is_none_or (last_write c.args.txn (seen_entry es s).version.key before) (seen_entry es s) in
    c.loop-seen.invariant before m ∙
    passes_here test c.args.observed.now c.loop-seen.seen-index c.seen-item.result c.loop-seen-test.true c.seen-item.is
    (sym (c.is_own.ensures before m) ∙ c.if-not-is_own.false)

pub returns : goal.returns
returns c before m =
    let es = c.args.tables.now.writes.events.now in
    let test : Seen → Bool = λ s. is_none_or (last_write c.args.txn (seen_entry es s).version.key before) (seen_entry es s) in
    sym (c.loop-seen.invariant before m ∙ passes_end test c.args.observed.now c.loop-seen.seen-index c.loop-seen-test.false)
