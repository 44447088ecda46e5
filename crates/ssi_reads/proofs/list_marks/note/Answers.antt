use Rattle.std.proofs.Common.{◌∙◌, sym}
use Rattle.ssi_reads.proofs.Numbers.{taken}
use Rattle.ssi_reads.proofs.list_marks.note.Goals as goal

pub returns-in_ok-insert : goal.returns-in_ok-insert
returns-in_ok-insert c t = taken _ _ c.args.mark.now.txn t _ (sym c.covers.ensures ∙ c.if-covers.true) (c.in_ok-insert.ensures.updates.0 t)
