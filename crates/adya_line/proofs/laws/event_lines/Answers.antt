use Rattle.adya_line.proofs.LineReaders.{events_read, one_event}
use Rattle.adya_line.proofs.laws.event_lines.Goals as goal

pub returns-clause-reading : goal.returns-clause-reading
returns-clause-reading c = events_read

pub returns-clause-one_text : goal.returns-clause-one_text
returns-clause-one_text c = one_event
