use Rattle.ssi_reads.specs.declared.range_marks.RangeMarks.{RangeMarks}
use Rattle.ssi_reads.proofs.RangedMarks.{range_forgotten}
use Rattle.ssi_reads.proofs.range_marks.RangeMarks.forget.Goals as goal

pub returns : goal.returns
returns c u k =
    let after : RangeMarks = record { alloc = c.args.self.now.alloc; places = c.remove.new.self; marks = c.remove_all.new.marks } in
    range_forgotten c.args.self.now after u k c.args.txn (c.remove.ensures.updates.0 u) c.remove_all.ensures
