use Rattle.adya_text.specs.Clauses.Grammars.{AreHistoryLines, AreSerialLines}
use Rattle.adya_text.proofs.TextLaws.{one_fault, no_fault}
use Rattle.adya_text.proofs.HistoryTexts as HT
use Rattle.adya_text.proofs.SerialTexts as ST
use Rattle.adya_text.proofs.laws.fault_lines.Goals as goal

pub returns-clause-one_of_history : goal.returns-clause-one_of_history
returns-clause-one_of_history c = one_fault AreHistoryLines

pub returns-clause-none_of_history : goal.returns-clause-none_of_history
returns-clause-none_of_history c =
    no_fault HT.is_machine c.history_lines.ensures.one_text c.history_lines.ensures.no_line_feed

pub returns-clause-one_of_serial : goal.returns-clause-one_of_serial
returns-clause-one_of_serial c = one_fault AreSerialLines

pub returns-clause-none_of_serial : goal.returns-clause-none_of_serial
returns-clause-none_of_serial c =
    no_fault ST.is_machine c.serial_lines.ensures.one_text c.serial_lines.ensures.no_line_feed
