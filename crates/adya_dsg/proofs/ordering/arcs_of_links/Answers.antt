use Rattle.std.proofs.Common.{IfOk, subst, sym}
use Rattle.std.proofs.lemmas.Result.{IfOk-from_err}
use Rattle.adya_values.specs.Mirror.Histories.{history_of}
use Rattle.adya_values.specs.declared.history.History.{History as HistoryValue}
use Rattle.adya_values.specs.Computing.EdgeList.{edge_list}
use Rattle.adya_dsg.specs.Machinery.Arcs.{AreEnds, Decide}
use Rattle.adya_values.specs.Clauses.Acceptance.{IsChecked}
use Rattle.adya_dsg.proofs.ordering.arcs_of_links.Goals as goal

pub returns-clause-sound : goal.returns-clause-sound
returns-clause-sound c =
    subst (λ (g : HistoryValue). IfOk c.links.result (λ v. AreEnds (edge_list (history_of g)) v.items)) c.in_ok-versions.ensures.same c.links.ensures.sound

pub returns-clause-enough : goal.returns-clause-enough
returns-clause-enough c =
    subst (λ (g : HistoryValue). IfOk c.links.result (λ v. Decide (edge_list (history_of g)) v.items)) c.in_ok-versions.ensures.same c.links.ensures.enough

pub of-requires : goal.of-requires
of-requires c = tt

pub returns-in_err-versions-clause-sound : goal.returns-in_err-versions-clause-sound
returns-in_err-versions-clause-sound c = IfOk-from_err c.from_residual.result _ c.from_residual.ensures.0

pub returns-in_err-versions-clause-enough : goal.returns-in_err-versions-clause-enough
returns-in_err-versions-clause-enough c = IfOk-from_err c.from_residual.result _ c.from_residual.ensures.0

pub links-requires : goal.links-requires
links-requires c = subst (λ (x : HistoryValue). IsChecked (history_of x)) (sym c.in_ok-versions.ensures.same) c.requires
