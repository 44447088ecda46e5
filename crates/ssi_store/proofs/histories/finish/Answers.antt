use Rattle.std.proofs.Common.{rules, sym, subst, ◌∙◌}
use Rattle.std.proofs.Math.Logic.{∥∥₁_map}
use Rattle.ssi_conflict.specs.Computing.Steps.{smallest_ordered_pivot}
use Rattle.ssi_conflict.specs.Clauses.Pairs.{IsOrderedPivot}
use Rattle.ssi_store.specs.Meaning.Faces.{Records}
use Rattle.ssi_store.specs.Clauses.Coverage.{IsCovered}
use Rattle.ssi_store.proofs.Finishes.{finishes, safe_by}
use Rattle.ssi_store.proofs.histories.finish.Goals as goal

pub returns-in-Ok-clause-history : goal.returns-in-Ok-clause-history
returns-in-Ok-clause-history g c = λ course st.
    finishes st _ c.open_txns.result.now _ st.log.events c.open_txns.ensures.all c.in-Ok.ensures.history

pub returns-in-Ok-clause-records : goal.returns-in-Ok-clause-records
returns-in-Ok-clause-records g c = λ course st.
    subst (λ h. Records h course) (sym (finishes st _ c.open_txns.result.now _ st.log.events c.open_txns.ensures.all c.in-Ok.ensures.history))
    (c.courses_are_recorded.ensures.finished smallest_ordered_pivot course st.follows)

pub returns-in-Ok-clause-covered : goal.returns-in-Ok-clause-covered
returns-in-Ok-clause-covered g c = λ course st.
    subst (λ h. IsCovered IsOrderedPivot course h)
    (sym (finishes st _ c.open_txns.result.now _ st.log.events c.open_txns.ensures.all c.in-Ok.ensures.history))
    (c.finished_are_covered.ensures.commit_order course st.follows)

pub invariant_of-result : goal.invariant_of-result
invariant_of-result g c = record {
  safe = ∥∥₁_map c.requires (λ at.
      safe_by at.0 _ _ _
      (finishes at.1 _ c.open_txns.result.now _ at.1.log.events c.open_txns.ensures.all c.in-Ok.ensures.history)
      (c.in-Ok.ensures.snapshots ∙ at.1.log.snapshots) (c.finished_are_covered.ensures.commit_order at.0 at.1.follows));
}

pub invariant_of-engine-in-Err : goal.invariant_of-engine-in-Err
invariant_of-engine-in-Err g c = search rules
