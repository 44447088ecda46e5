use Rattle.std.proofs.Common.{rules}
use Rattle.ssi_reads.proofs.index_marks.IndexMarksMarks.readers_of.Goals as goal

pub returns-clause-exact : goal.returns-clause-exact
returns-clause-exact c = search rules
