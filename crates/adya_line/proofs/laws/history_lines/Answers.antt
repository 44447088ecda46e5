use Rattle.adya_line.proofs.HistoryLines.{one_history_line, history_lines_plain}
use Rattle.adya_line.proofs.laws.history_lines.Goals as goal

pub returns-clause-one_text : goal.returns-clause-one_text
returns-clause-one_text c = one_history_line

pub returns-clause-no_line_feed : goal.returns-clause-no_line_feed
returns-clause-no_line_feed c = history_lines_plain
