use Rattle.std.proofs.Common.{rules}
use Rattle.ssi_reads.proofs.index_marks.IndexMarksMarks.mark_key.Goals as goal

pub returns-clause-marks : goal.returns-clause-marks
returns-clause-marks c = search rules
