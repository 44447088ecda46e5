use Rattle.std.proofs.Common.{rules, ◌≡◌, Some, true, false, ℕ, ap, refl, sym, ◌∙◌}
use Rattle.ssi_conflict.specs.Machinery.Rows.{new_row}
use Rattle.ssi_conflict.proofs.TableOrder.{tidy_changed, tidy_same, set_changed, set_apart}
use Rattle.ssi_conflict.proofs.table.Table.open.Goals as goal
use Rattle.ssi_conflict.specs.Machinery.Index.{commit_in}
use Rattle.ssi_conflict.specs.Machinery.Tables.{row_at, is_open_row}

pub returns-clause-tidy : goal.returns-clause-tidy
returns-clause-tidy c fresh tidy =
    tidy_changed (row_at c.args.self.now) _ _ _ _ _ _ _ c.args.txn true (Some (new_row c.args.snapshot))
    (search rules) (ap commit_in fresh) refl refl c.in_ok-insert.ensures.updates.0 tidy

pub returns-in-Err-clause-tidy : goal.returns-in-Err-clause-tidy
returns-in-Err-clause-tidy c fresh tidy =
    let m = c.args.self.now in
    let same : (x : ℕ) → row_at (record m { records = c.add.new.self }) x ≡ row_at m x = search rules in
    tidy_same (row_at m) _ _ _ _ _ _ _ (λ x. ap commit_in (same x))
    (set_changed _ _ c.args.txn false (row_at (record m { records = c.add.new.self })) c.remove.ensures.updates.0
    (sym (ap is_open_row (same c.args.txn ∙ fresh)))
    (λ x ne. set_apart _ _ c.args.txn true c.in_ok-insert.ensures.updates.0 x ne ∙
    (tidy.opens x ∙ ap is_open_row (sym (same x)))))
    tidy
