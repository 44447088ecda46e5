use Rattle.ssi_loads.proofs.PlainLines.{lines_plain}
use Rattle.ssi_loads.proofs.laws.first_lines_are_plain.Goals as goal

pub returns : goal.returns
returns c = lines_plain c.commands_are_words.ensures.printed
