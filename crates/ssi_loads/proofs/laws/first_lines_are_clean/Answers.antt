use Rattle.ssi_loads.proofs.CleanLines.{lines_clean}
use Rattle.ssi_loads.proofs.laws.first_lines_are_clean.Goals as goal

pub returns : goal.returns
returns c = lines_clean c.commands_are_words.ensures.printed
