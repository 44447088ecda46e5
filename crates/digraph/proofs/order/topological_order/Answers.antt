use Rattle.std.proofs.Common.{◌↔◌, Contains, subst, sym}
use Rattle.std.proofs.lemmas.Result.{IfOk-weaker}
use Rattle.digraph.specs.Clauses.Graphs.{IsOrderOrCycle}
use Rattle.digraph.specs.Machinery.Placings.{IsPlacing}
use Rattle.digraph.specs.declared.arc.Arc.{Arc}
use Rattle.digraph.proofs.Moved.{found_in_moved}
use Rattle.digraph.proofs.order.topological_order.Goals as goal

pub returns-clause-found : goal.returns-clause-found
returns-clause-found c =
    IfOk-weaker c.place_rest.result _ (IsOrderOrCycle c.args.nodes.now c.args.arcs.items)
    (λ found. found_in_moved c.args.nodes.now c.args.arcs.items c.deref-2.result.now
    (subst (λ xs. (a : Arc) → Contains c.args.arcs.items a ↔ Contains xs a) (sym c.deref-2.ensures.value) c.by_target.ensures.same)
    c.in_ok-begun.begun c.requires (subst (λ xs. IsPlacing c.args.nodes.now xs c.in_ok-begun.begun) c.deref.ensures.value c.in_ok-begun.ensures)
    found)
    c.place_rest.ensures.found
