use Rattle.std.proofs.Common.{falls, zero-add, sym, ◌∙◌}
use Rattle.adya_dsg.proofs.Lines.{place_found, place_passed, place_past}
use Rattle.adya_dsg.proofs.version_orders.writers_before.Goals as goal

pub loop-i-init : goal.loop-i-init
loop-i-init c = sym (zero-add _)

pub bounds-writers-i : goal.bounds-writers-i
bounds-writers-i c = c.loop-i-test.true

pub eq-requires : goal.eq-requires
eq-requires c = tt

pub returns-then-eq : goal.returns-then-eq
returns-then-eq c =
    place_found c.args.writers.now c.args.txn c.loop-i.i c.loop-i.invariant c.index-writers-i.result c.loop-i-test.true
    c.index-writers-i.is (sym c.eq.ensures ∙ c.if-eq.true)

pub loop-i-smaller : goal.loop-i-smaller
loop-i-smaller c = falls _ _ c.loop-i-test.true

pub loop-i-preserved : goal.loop-i-preserved
loop-i-preserved c =
    place_passed c.args.writers.now c.args.txn c.loop-i.i c.loop-i.invariant c.index-writers-i.result c.loop-i-test.true
    c.index-writers-i.is (sym c.eq.ensures ∙ c.if-eq.false)

pub returns : goal.returns
returns c = place_past c.args.writers.now c.args.txn c.loop-i.i c.loop-i.invariant c.loop-i.auto.i-end c.loop-i-test.false
