use Rattle.std.proofs.Common.{◌≡◌, ◌≢◌, List, Vec, Global, Result, Ok, Err, IfOk, map, sym, ap, subst}
use Rattle.std.specs.List.{AllPairs}
use Rattle.adya_values.specs.declared.history.History.{History as HistoryValue}
use Rattle.adya_values.specs.Mirror.Histories.{history_of}
use Rattle.adya_values.specs.Meaning.Edges.{Edge}
use Rattle.adya_values.specs.Computing.EdgeList.{edge_list}
use Rattle.adya_terms.specs.Clauses.Checked.{checked_history}
use Rattle.adya_dsg.specs.Machinery.VersionOrders.{ordered_history}
use Rattle.adya_dsg.specs.Mirror.{edge_of, AreEdges}
use Rattle.adya_dsg.specs.declared.edge.Edge.{Edge as EdgeValue}
use Rattle.adya_dsg.proofs.listing.edges.Goals as goal

-- what holds of the list holds of the edges
held : {E : Type 0} (r : Result (Vec EdgeValue Global) E) (all : List Edge) (holds : List Edge → Type 0)
    → IfOk r (λ v. map edge_of v.items ≡ all) → holds all → IfOk r (λ v. holds (map edge_of v.items))
held (Ok v) all holds same it = subst holds (sym same) it
held (Err e) all holds same it = tt

-- the version orders are those of the history
same_list : (c : goal.After-drop-versions-3) → edge_list (ordered_history c.in_ok-versions.versions) ≡ edge_list (checked_history c.args.checked.now)
same_list c = ap (λ (g : HistoryValue). edge_list (history_of g)) c.in_ok-versions.ensures.same

pub returns-clause-exact : goal.returns-clause-exact
returns-clause-exact c =
    held c.edges_of.result (edge_list (ordered_history c.in_ok-versions.versions)) (λ es. es ≡ edge_list (checked_history c.args.checked.now))
    c.edges_of.ensures (same_list c)

pub returns-clause-edges : goal.returns-clause-edges
returns-clause-edges c =
    let h = checked_history c.args.checked.now in
    held c.edges_of.result (edge_list (ordered_history c.in_ok-versions.versions)) (AreEdges h)
    c.edges_of.ensures (subst (AreEdges h) (sym (same_list c)) (c.edge_list_is_exact.ensures h))

pub returns-clause-once : goal.returns-clause-once
returns-clause-once c =
    let h = checked_history c.args.checked.now in
    held c.edges_of.result (edge_list (ordered_history c.in_ok-versions.versions)) (AllPairs (λ (a b : Edge). a ≢ b))
    c.edges_of.ensures (subst (AllPairs (λ (a b : Edge). a ≢ b)) (sym (same_list c)) (c.edge_list_is_distinct.ensures h))
