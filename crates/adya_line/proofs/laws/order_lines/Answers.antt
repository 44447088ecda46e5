use Rattle.adya_line.proofs.LineReaders.{orders_read, one_order}
use Rattle.adya_line.proofs.laws.order_lines.Goals as goal

pub returns-clause-reading : goal.returns-clause-reading
returns-clause-reading c = orders_read

pub returns-clause-one_text : goal.returns-clause-one_text
returns-clause-one_text c = one_order
