use Rattle.std.proofs.Common.{◌<◌, get_or, refl, sym, ◌∙◌, subst}
use Rattle.adya_values.specs.Meaning.Histories.{Abort}
use Rattle.adya_values.specs.Meaning.Selections.{is_scan}
use Rattle.adya_values.specs.Mirror.Events.{events_of}
use Rattle.adya_values.specs.Mirror.Numbers.{bounds, both_at, keys_of}
use Rattle.adya_dsg.proofs.AnyLeft.{any_here, any_later}
use Rattle.adya_dsg.proofs.EventsAt.{found_at, told_if, scan_told}
use Rattle.adya_dsg.proofs.changes.has_scans.Goals as goal

pub returns-then-is_some : goal.returns-then-is_some
returns-then-is_some c =
    let es = events_of c.args.events.now in
    let i = c.loop-event.event in
    let e = get_or es i (Abort 0) in
    let told = c.is_some.ensures ∙ scan_told (both_at (keys_of c.args.events.now)) c.bounds_at.result e (c.bounds_at.ensures.keys ∙ told_if bounds refl es i) in
    sym (c.loop-event.invariant ∙
    any_here is_scan es i e (found_at es i (subst (λ n. i < n) c.len-event-end.ensures.length c.loop-event-test.true)) (sym told ∙ c.if-is_some.true))

pub loop-event-preserved : goal.loop-event-preserved
loop-event-preserved c =
    let es = events_of c.args.events.now in
    let i = c.loop-event.event in
    let e = get_or es i (Abort 0) in
    let told = c.is_some.ensures ∙ scan_told (both_at (keys_of c.args.events.now)) c.bounds_at.result e (c.bounds_at.ensures.keys ∙ told_if bounds refl es i) in
    c.loop-event.invariant ∙
    any_later is_scan es i e (found_at es i (subst (λ n. i < n) c.len-event-end.ensures.length c.loop-event-test.true)) (sym told ∙ c.if-is_some.false)
