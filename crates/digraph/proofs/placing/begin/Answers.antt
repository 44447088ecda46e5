use Rattle.std.proofs.Common.{List, ◌≡◌, ℕ, ◌+◌, ◌==◌, cond, count_by, sym, subst, ◌∙◌}
use Rattle.std.specs.Ordering.{nat_cmp}
use Rattle.std.specs.BTreeSet.{contains}
use Rattle.digraph.specs.Machinery.NodeSets.{has}
use Rattle.digraph.specs.Machinery.Placings.{Places}
use Rattle.digraph.proofs.Orders.{nothing_placed}
use Rattle.digraph.proofs.Placings.{all_removed, same_remaining}
use Rattle.digraph.proofs.placing.begin.Goals as goal

pub returns-then-keep_order : goal.returns-then-keep_order
returns-then-keep_order c =
    let nodes = c.args.nodes.now in
    let arcs = c.args.arcs.now in
    let was = has c.in_ok-remaining.remaining in
    let now = has c.remove_all.new.set in
    let ts = c.in_ok-candidate.candidate.nodes.items in
    same_remaining nodes arcs now (contains nat_cmp c.in_ok-remaining-2.remaining) ts c.in_ok-remaining-2.ensures
    (all_removed nodes arcs was now ts c.in_ok-remaining.ensures
    (subst (λ (xs : List ℕ). (q : ℕ) → count_by (λ u. u == q) xs + cond (now q) 1 0 ≡ cond (was q) 1 0)
    c.deref.ensures.value (c.remove_all.ensures c.if-remove_all.true))
    (c.keep_order.ensures c.if-keep_order.true))

pub returns : goal.returns
returns c =
    let left = contains nat_cmp c.in_ok-into_tree.field-0 in
    subst (λ xs. Places c.args.nodes.now xs c.args.arcs.now left) (sym c.new.ensures.items)
    (nothing_placed c.args.nodes.now c.args.arcs.now c.requires left
    (λ q. c.in_ok-into_tree.ensures q ∙ c.in_ok-of.ensures q))
