use Rattle.std.proofs.Common.{ℕ, List, true≢false, sym, subst}
use Rattle.std.specs.Ordering.{nat_cmp}
use Rattle.std.specs.BTreeSet.{contains}
use Rattle.digraph.specs.Machinery.Traces.{IsTrace}
use Rattle.digraph.specs.Machinery.Placings.{Places}
use Rattle.digraph.proofs.Orders.{one_placed, all_placed}
use Rattle.lemmas.proofs.Lists.{zero_unless_positive}
use Rattle.lemmas.proofs.Tests.{list_any_empty}
use Rattle.digraph.proofs.order.place_rest.Goals as goal

pub place-preserved : goal.place-preserved
place-preserved c nodes graph begun =
    let arcs = c.args.arcs.now in
    let less = contains nat_cmp c.remove.new.self in
    let walk = subst (IsTrace arcs c.place.remaining) c.in-Source.is c.in_ok-cycle.ensures in
    subst (λ xs. Places nodes xs arcs less) (sym {A = List ℕ} c.in_ok-push-in-Source.ensures.items)
    (one_placed nodes arcs graph (contains nat_cmp c.place.remaining) less c.place.placed.items c.in-Source.t
    (c.place.invariant nodes graph begun) walk.0 walk.1 c.remove.ensures.updates.0)

pub returns-clause-found : goal.returns-clause-found
returns-clause-found c nodes graph begun =
    all_placed nodes c.args.arcs.now graph (contains nat_cmp c.place.remaining) c.place.placed.items
    (c.place.invariant nodes graph begun)
    (λ q. list_any_empty _ c.place.remaining.keys
    (zero_unless_positive _ (λ l. true≢false (sym (c.in_default.ensures.variant.1 l)))))
