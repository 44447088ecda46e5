use Rattle.adya_line.proofs.LineReaders.{unfinished_read, one_unfinished}
use Rattle.adya_line.proofs.laws.unfinished_lines.Goals as goal

pub returns-clause-reading : goal.returns-clause-reading
returns-clause-reading c = unfinished_read

pub returns-clause-one_text : goal.returns-clause-one_text
returns-clause-one_text c = one_unfinished
