use Rattle.adya_line.proofs.LineReaders.{finals_read, one_final}
use Rattle.adya_line.proofs.laws.final_lines.Goals as goal

pub returns-clause-reading : goal.returns-clause-reading
returns-clause-reading c = finals_read

pub returns-clause-one_text : goal.returns-clause-one_text
returns-clause-one_text c = one_final
