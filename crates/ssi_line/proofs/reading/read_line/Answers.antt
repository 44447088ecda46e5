use Rattle.ssi_line.proofs.LinesRead.{exact}
use Rattle.ssi_line.proofs.reading.read_line.Goals as goal

pub returns : goal.returns
returns c = exact c.txn_lines.ensures.reading c.args.text.now c.line_at.result c.line_at.ensures
