use Rattle.std.proofs.Common.{◌≡◌, ◌==◌, ◌&&◌, ℕ, true, List, sym, ◌∙◌, subst}
use Rattle.std.specs.List.{list_any, list_all}
use Rattle.std.proofs.lemmas.Bool.{and_parts}
use Rattle.lemmas.proofs.Tests.{all_pass}
use Rattle.digraph.specs.Clauses.Graphs.{IsGraph}
use Rattle.digraph.specs.declared.arc.Arc.{Arc}
use Rattle.adya_tests.proofs.graphs.outcome.Goals as goal

is_graph : (nodes : List ℕ) (arcs : List Arc)
    → list_all (λ a. list_any (λ u. u == a.from) nodes && list_any (λ u. u == a.to) nodes) arcs ≡ true
    → IsGraph nodes arcs
is_graph nodes arcs all a there = and_parts _ _ (all_pass _ arcs a all there)

pub topological_order-requires : goal.topological_order-requires
topological_order-requires c =
    subst (IsGraph c.args.nodes.now) c.deref.ensures.value
    (is_graph c.args.nodes.now c.deref.result.now (sym c.is_graph.ensures ∙ c.if-not-is_graph.false))
