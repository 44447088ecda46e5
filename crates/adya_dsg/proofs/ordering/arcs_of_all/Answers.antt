use Rattle.std.proofs.Common.{IfOk, subst}
use Rattle.adya_values.specs.Mirror.Histories.{history_of}
use Rattle.adya_values.specs.declared.history.History.{History as HistoryValue}
use Rattle.adya_values.specs.Computing.EdgeList.{edge_list}
use Rattle.adya_dsg.specs.Machinery.Arcs.{AreEnds, Decide}
use Rattle.adya_dsg.proofs.ordering.arcs_of_all.Goals as goal

pub returns-clause-sound : goal.returns-clause-sound
returns-clause-sound c =
    subst (λ (g : HistoryValue). IfOk c.arcs_of_edges.result (λ v. AreEnds (edge_list (history_of g)) v.items)) c.in_ok-versions.ensures.same c.arcs_of_edges.ensures.sound

pub returns-clause-enough : goal.returns-clause-enough
returns-clause-enough c =
    subst (λ (g : HistoryValue). IfOk c.arcs_of_edges.result (λ v. Decide (edge_list (history_of g)) v.items)) c.in_ok-versions.ensures.same c.arcs_of_edges.ensures.enough
