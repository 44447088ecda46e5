use Rattle.std.proofs.Common.{◌==◌, ◌||◌, get_or, ap, ◌∙◌, sym}
use Rattle.std.specs.List.{list_any}
use Rattle.std.proofs.lemmas.List.Folds.{list_any_more}
use Rattle.std.proofs.lemmas.List.{take_all}
use Rattle.digraph.proofs.Sets.{added}
use Rattle.digraph.proofs.node_set.tree_of.Goals as goal

pub loop-t-preserved : goal.loop-t-preserved
loop-t-preserved c q =
    let i = c.loop-t.t-index in
    let ts = c.args.nodes.now in
    let t = get_or ts i 0 in
    added t q _ _ (c.in_ok-insert.ensures.updates.0 q) ∙
    (ap (λ b. b || (t == q)) (c.loop-t.invariant q) ∙ sym (list_any_more (λ u. u == q) ts i 0 c.loop-t-test.true))

pub returns : goal.returns
returns c q =
    c.loop-t.invariant q ∙ ap (list_any (λ u. u == q)) (take_all c.loop-t.t-index c.args.nodes.now c.loop-t-test.false)
