use Rattle.std.proofs.Common.{sym, ◌∙◌}
use Rattle.digraph.specs.Machinery.NodeSets.{has}
use Rattle.digraph.proofs.Placings.{one_removed}
use Rattle.digraph.proofs.placing.remove_all.Goals as goal

pub loop-t-preserved : goal.loop-t-preserved
loop-t-preserved c q =
    one_removed c.args.nodes.now c.loop-t.t-index (has c.loop-t.set) (has c.remove.new.self)
    c.loop-t-test.true (sym c.remove.ensures.was ∙ c.if-not-remove.false) c.remove.ensures.now q ∙
    c.loop-t.invariant q
