use Rattle.std.proofs.Common.{arith, sym, ◌∙◌}
use Rattle.std.specs.Ordering.{nat_cmp}
use Rattle.std.specs.BTreeSet.{contains}
use Rattle.digraph.proofs.IncomingArcs.{one_more, none_from_here}
use Rattle.digraph.proofs.incoming.arc_from_remaining.Goals as goal

pub loop-i-init : goal.loop-i-init
loop-i-init c = (omega arith, λ k d l m e. let b = c.first_into-i.ensures.below k d l in absurd (omega (arith, b, e)))

pub loop-i-preserved : goal.loop-i-preserved
loop-i-preserved c =
    let more = one_more c.args.arcs.now (contains nat_cmp c.args.remaining.now) c.args.to c.loop-i.i _
    c.loop-i.invariant.1 c.loop-i-test.true (sym c.contains.ensures ∙ c.if-contains.false) in
    (omega arith, more)

pub returns-then-a-to-clause-none : goal.returns-then-a-to-clause-none
returns-then-a-to-clause-none c =
    none_from_here c.args.arcs.now (contains nat_cmp c.args.remaining.now) c.args.to c.requires c.loop-i.i _
    c.loop-i.invariant.1 c.loop-i-test.true
    (c.first_into-i.ensures.above c.loop-i.i _ c.loop-i.invariant.0 c.loop-i-test.true) c.if-a-to.true
