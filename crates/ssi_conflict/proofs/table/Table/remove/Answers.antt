use Rattle.std.proofs.Common.{sym, subst}
use Rattle.ssi_conflict.proofs.TableOrder.{tidy_gone}
use Rattle.ssi_conflict.proofs.table.Table.remove.Goals as goal
use Rattle.ssi_conflict.specs.Machinery.Tables.{row_at, IsTidy}

pub returns-clause-tidy : goal.returns-clause-tidy
returns-clause-tidy c is_open tidy =
    subst IsTidy (sym c.drop_record.ensures.rest)
    (tidy_gone (row_at c.args.self.now) _ _ _ _ _ _ _ _ c.args.txn c.drop_record.ensures.rows is_open
    c.remove.ensures.updates.0 (c.drop_record.ensures.indexed tidy.indexed) tidy)
