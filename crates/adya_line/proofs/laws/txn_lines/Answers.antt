use Rattle.adya_line.proofs.LineReaders.{txns_read, one_txn}
use Rattle.adya_line.proofs.laws.txn_lines.Goals as goal

pub returns-clause-reading : goal.returns-clause-reading
returns-clause-reading c = txns_read

pub returns-clause-one_text : goal.returns-clause-one_text
returns-clause-one_text c = one_txn
