use Rattle.adya_line.proofs.SerialLines.{one_serial_line, serial_lines_plain}
use Rattle.adya_line.proofs.laws.serial_lines.Goals as goal

pub returns-clause-one_text : goal.returns-clause-one_text
returns-clause-one_text c = one_serial_line

pub returns-clause-no_line_feed : goal.returns-clause-no_line_feed
returns-clause-no_line_feed c = serial_lines_plain
