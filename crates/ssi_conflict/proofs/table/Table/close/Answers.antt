use Rattle.std.proofs.Common.{◌∷◌, [], ◌++◌, option_map, sym, ◌∙◌, subst}
use Rattle.std.proofs.lemmas.Bool.{cond-true}
use Rattle.std.specs.BTreeSet.{contains}
use Rattle.std.specs.Ordering.{nat_cmp}
use Rattle.ssi_conflict.specs.Machinery.Rows.{closed}
use Rattle.ssi_conflict.proofs.TableOrder.{tidy_closed, unstamped_gone, closed_commit}
use Rattle.ssi_conflict.specs.Machinery.Records.{row_in}
use Rattle.ssi_conflict.proofs.table.Table.close.Goals as goal
use Rattle.ssi_conflict.specs.Machinery.Index.{writer_in}
use Rattle.ssi_conflict.specs.Machinery.Tables.{row_at, Tidy}

pub returns-clause-tidy : goal.returns-clause-tidy
returns-clause-tidy c opened next ready tidy =
    let m = c.args.self.now in
    let t = c.args.txn in
    let after = closed_commit (row_at m t) m.last c.args.stamp m.judged.items next opened in
    subst (λ ts. Tidy (row_in c.close.new.self) (contains nat_cmp c.remove.new.self) ts (writer_in m.writes)
    c.args.stamp c.close.new.keys.items)
    (sym (c.push_back.ensures.items ∙ cond-true _ _ _ (c.push_back.ensures.succeeds ready.room)))
    (subst (λ n. Tidy (row_in c.close.new.self) (contains nat_cmp c.remove.new.self) (m.closed.items ++ t ∷ [])
    (writer_in m.writes) n c.close.new.keys.items) (sym next)
    (tidy_closed (row_at m) (row_in c.close.new.self) (contains nat_cmp m.open) (contains nat_cmp c.remove.new.self)
    m.closed.items (writer_in m.writes) m.last m.judged.items c.close.new.keys.items t
    (option_map (closed c.args.stamp m.judged.items) (row_at m t)) c.close.ensures after.0 after.1 after.2
    (unstamped_gone (row_at m t) opened) ready.filed c.remove.ensures.updates.0 tidy))
