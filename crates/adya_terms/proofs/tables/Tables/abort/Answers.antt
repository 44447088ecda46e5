use Rattle.std.proofs.Common.{refl}
use Rattle.adya_values.specs.Meaning.Histories.{Abort}
use Rattle.txn_table.specs.Mirror.{value_for}
use Rattle.adya_terms.proofs.OwnWrites.{if_ok}
use Rattle.adya_terms.proofs.Tells.{tell_quiet, aborts_more}
use Rattle.adya_terms.proofs.tables.Tables.abort.Goals as goal

pub returns-clause-means : goal.returns-clause-means
returns-clause-means c =
    if_ok c.set.result c.set.ensures.set
    (λ u set before m.
    let now = aborts_more (value_for c.args.self.now.ended) (value_for c.set.new.self) c.args.txn c.has_committed-committed.result c.has_committed-committed.ensures set in
    tell_quiet _ _ _ _ _ before m (Abort c.args.txn) refl _ _ (λ u. (now u).0) (λ u. (now u).1))
