use Rattle.ssi_line.proofs.LinesRead.{one_line}
use Rattle.ssi_line.proofs.laws.lines_ask_for_one_thing.Goals as goal

pub returns : goal.returns
returns c = one_line c.txn_lines.ensures.reading
