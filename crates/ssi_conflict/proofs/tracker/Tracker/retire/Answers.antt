use Rattle.std.proofs.Common.{is_some, refl, sym, ◌∙◌, ap}
use Rattle.ssi_conflict.proofs.AfterAbort.{dropped}
use Rattle.ssi_conflict.proofs.RefusedCalls.{same_stands}
use Rattle.ssi_conflict.proofs.Retirement.{oldest_of_rows, past_unkept, stamped_row}
use Rattle.ssi_conflict.proofs.TrackerSteps.{exact_rows}
use Rattle.ssi_conflict.proofs.tracker.Tracker.retire.Goals as goal
use Rattle.ssi_conflict.specs.Machinery.Tables.{row_at}

pub loop-txn-preserved : goal.loop-txn-preserved
loop-txn-preserved g c calls first =
    let now' = c.loop-txn.invariant calls first in
    let old = oldest_of_rows _ _ calls first.rows _ (c.oldest-oldest.ensures first.tidy) in
    let change = c.in-Some.ensures.popped in
    let past = c.in-Some.ensures.past now'.tidy in
    record {
      rows = dropped (row_at c.loop-txn.self.table) (row_at c.pop_before.new.self) _ _ calls c.in-Some.txn
          (past_unkept calls _ old c.in-Some.txn past.stamp (stamped_row _ _ calls now'.rows c.in-Some.txn past.stamp
          past.stamped) past.past) change.here change.others c.forget.ensures now'.rows;
      tidy = c.pop_before.ensures.tidy now'.tidy;
      last = c.pop_before.ensures.last ∙ now'.last;
    }

pub returns : goal.returns
returns g c calls first =
    let now' = c.loop-txn.invariant calls first in
    let old = oldest_of_rows _ _ calls first.rows _ (c.oldest-oldest.ensures first.tidy) in
    record {
      holds = record {
        rows = same_stands (row_at c.loop-txn.self.table) (row_at c.pop_before.new.self) _ _ calls
            c.in_default.ensures.same (λ t k. refl) now'.rows;
        tidy = c.pop_before.ensures.tidy now'.tidy;
        last = c.pop_before.ensures.last ∙ now'.last;
      };
      exact = λ t h. exact_rows (row_at c.loop-txn.self.table) _ calls now'.rows _ old
          (c.in_default.ensures.rest now'.tidy) t (ap is_some (sym (c.in_default.ensures.same t)) ∙ h);
    }
