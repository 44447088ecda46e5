use Rattle.std.proofs.Common.{◌∷◌, ◌∙◌}
use Rattle.ssi_conflict.specs.Meaning.Calls.{Aborts}
use Rattle.ssi_conflict.proofs.AfterAbort.{stands_after_abort}
use Rattle.ssi_conflict.proofs.Retirement.{row_open}
use Rattle.ssi_conflict.proofs.tracker.Tracker.on_abort.Goals as goal

pub returns : goal.returns
returns g c calls stands ok =
    let rows = stands.holds.rows in
    c.retire.ensures (Aborts c.args.txn ∷ calls) (record {
      rows = stands_after_abort c.args.txn calls (ok, rows.allowed) _ _ _ _ c.remove.ensures.rows.here
          c.remove.ensures.rows.others c.forget.ensures rows;
      tidy = c.remove.ensures.tidy (row_open _ _ calls rows c.args.txn ok) stands.holds.tidy;
      last = c.remove.ensures.last ∙ stands.holds.last;
    })
