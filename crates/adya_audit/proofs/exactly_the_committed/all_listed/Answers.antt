use Rattle.std.proofs.Common.{◌<◌, ℕ, sym, ◌∙◌, subst, nat_cmp}
use Rattle.std.specs.BTreeSet.{contains}
use Rattle.adya_values.specs.Mirror.Events.{events_of}
use Rattle.adya_audit.proofs.AllLeft.{fails_at, passes_at}
use Rattle.adya_audit.proofs.exactly_the_committed.all_listed.Goals as goal

pub returns-then-not-is_listed : goal.returns-then-not-is_listed
returns-then-not-is_listed c =
    sym (c.loop-i.invariant ∙
    fails_at (λ (t : ℕ). contains nat_cmp c.args.listed.now t) (events_of c.args.events.now) c.loop-i.i
    (subst (λ n. c.loop-i.i < n) c.len-i-end.ensures.length c.loop-i-test.true) c.commit_at.result c.commit_at.ensures
    (sym c.is_listed.ensures ∙ c.if-not-is_listed.true))

pub loop-i-preserved : goal.loop-i-preserved
loop-i-preserved c =
    c.loop-i.invariant ∙
    passes_at (λ (t : ℕ). contains nat_cmp c.args.listed.now t) (events_of c.args.events.now) c.loop-i.i
    (subst (λ n. c.loop-i.i < n) c.len-i-end.ensures.length c.loop-i-test.true) c.commit_at.result c.commit_at.ensures
    (sym c.is_listed.ensures ∙ c.if-not-is_listed.false)
