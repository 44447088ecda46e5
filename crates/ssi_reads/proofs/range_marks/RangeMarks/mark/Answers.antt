use Rattle.ssi_reads.specs.declared.range_marks.RangeMarks.{RangeMarks}
use Rattle.ssi_reads.proofs.RangedMarks.{range_marked, range_refused}
use Rattle.ssi_reads.proofs.Maps.{on_ok, on_err_two}
use Rattle.ssi_reads.proofs.range_marks.RangeMarks.mark.Goals as goal

pub returns-clause-marks : goal.returns-clause-marks
returns-clause-marks c =
    let after : RangeMarks = record { alloc = c.args.self.now.alloc; places = c.add_place.new.places; marks = c.add_mark.new.marks } in
    on_ok c.add_mark.result _ _
    (λ added u k. range_marked c.args.self.now after u k c.args.txn c.args.low c.args.high c.new-place.result (c.new-place.ensures k)
    c.in_ok-add_place.ensures.added added)
    c.add_mark.ensures.added

pub returns-clause-refused : goal.returns-clause-refused
returns-clause-refused c =
    let after : RangeMarks = record { alloc = c.args.self.now.alloc; places = c.add_place.new.places; marks = c.add_mark.new.marks } in
    on_err_two c.add_mark.result _ _ _
    (λ same absent u k. range_refused c.args.self.now after u k c.args.txn c.new-place.result c.in_ok-add_place.ensures.added same absent)
    c.add_mark.ensures.refused c.add_mark.ensures.absent
