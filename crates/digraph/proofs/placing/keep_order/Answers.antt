use Rattle.std.proofs.Common.{subst, arith}
use Rattle.digraph.specs.Machinery.NodeSets.{has}
use Rattle.digraph.specs.Machinery.Placings.{KeepsOrder}
use Rattle.digraph.proofs.Placings.{one_kept}
use Rattle.digraph.proofs.placing.keep_order.Goals as goal

pub loop-a-preserved : goal.loop-a-preserved
loop-a-preserved c =
    one_kept c.args.arcs.now
    (KeepsOrder c.args.candidate.now.nodes.items (has c.args.remaining.now)) c.loop-a.a-index _
    c.loop-a.invariant c.loop-a-test.true (c.keeps_order.ensures c.if-not-keeps_order.false)

pub returns : goal.returns
returns c t a (k, l, at) =
    subst (KeepsOrder c.args.candidate.now.nodes.items (has c.args.remaining.now)) at
    (c.loop-a.invariant k a (omega arith) l)
