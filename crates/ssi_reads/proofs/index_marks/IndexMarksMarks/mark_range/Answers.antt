use Rattle.std.proofs.Common.{rules}
use Rattle.ssi_reads.proofs.index_marks.IndexMarksMarks.mark_range.Goals as goal

pub returns-clause-refused : goal.returns-clause-refused
returns-clause-refused c = search rules
