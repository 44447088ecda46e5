use Rattle.std.proofs.Common.{ap, sym, ◌∙◌}
use Rattle.ssi_reads.specs.Machinery.Indexed.{indexed}
use Rattle.ssi_reads.proofs.KeyedMarks.{marked_both, marked_one}
use Rattle.ssi_reads.proofs.Maps.{on_ok, on_err_two}
use Rattle.ssi_reads.proofs.key_marks.KeyMarks.mark.Goals as goal

pub returns-clause-marks : goal.returns-clause-marks
returns-clause-marks c =
    on_ok c.add_txn.result _ _
    (λ h u k. marked_both c.args.txn u c.args.key k _ _ _ _ (h k u) (c.in_ok-add_key.ensures.added u k)) c.add_txn.ensures.added

pub returns-clause-refused : goal.returns-clause-refused
returns-clause-refused c =
    on_err_two c.add_txn.result _ _ _
    (λ same absent u k. marked_one c.args.txn u c.args.key k _ _ _ _ (same k u)
    (λ e f. ap (λ x. indexed c.args.self.now.txns k x) (sym e) ∙ (ap (λ x. indexed c.args.self.now.txns x c.args.txn) (sym f) ∙ absent))
    (c.in_ok-add_key.ensures.added u k))
    c.add_txn.ensures.refused c.add_txn.ensures.absent
