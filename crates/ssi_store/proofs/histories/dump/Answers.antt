use Rattle.std.proofs.Common.{rules, sym, subst, ◌≡◌, ◌∙◌}
use Rattle.std.proofs.Math.Logic.{∥∥₁_map}
use Rattle.ssi_conflict.specs.Computing.Steps.{smallest_ordered_pivot}
use Rattle.ssi_conflict.specs.Clauses.Pairs.{IsOrderedPivot}
use Rattle.ssi_store.specs.Meaning.Faces.{RecordsSoFar}
use Rattle.ssi_store.specs.Clauses.Coverage.{IsCovered}
use Rattle.ssi_store.proofs.Finishes.{dumps, safe_by}
use Rattle.ssi_store.proofs.histories.dump.Goals as goal

pub returns-clause-history : goal.returns-clause-history
returns-clause-history g c = λ course st.
    dumps st _ c.open_txns.result.now _ st.log.events c.open_txns.ensures.all c.in_ok-history.ensures

pub returns-clause-records : goal.returns-clause-records
returns-clause-records g c = λ course st.
    subst (λ h. RecordsSoFar h course)
    (sym (dumps st _ c.open_txns.result.now _ st.log.events c.open_txns.ensures.all c.in_ok-history.ensures))
    (c.courses_are_recorded.ensures.so_far smallest_ordered_pivot course st.follows)

pub returns-clause-covered : goal.returns-clause-covered
returns-clause-covered g c = λ course st.
    subst (λ h. IsCovered IsOrderedPivot course h)
    (sym (dumps st _ c.open_txns.result.now _ st.log.events c.open_txns.ensures.all c.in_ok-history.ensures))
    (c.dumped_are_covered.ensures.commit_order course st.follows)

pub invariant_of-finished : goal.invariant_of-finished
invariant_of-finished g c = record {
  safe = ∥∥₁_map c.requires (λ at.
      (let copied : c.in_ok-snapshots.snapshots.items ≡ c.args.engine.now.past.snapshots.items = Prim.search rules in
      safe_by at.0 _ _ c.in_ok-snapshots.snapshots.items
      (dumps at.1 _ c.open_txns.result.now _ at.1.log.events c.open_txns.ensures.all c.in_ok-history.ensures)
      (copied ∙ at.1.log.snapshots) (c.dumped_are_covered.ensures.commit_order at.0 at.1.follows)));
}
