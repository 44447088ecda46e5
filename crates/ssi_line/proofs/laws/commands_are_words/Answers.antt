use Rattle.ssi_line.proofs.CommandLines.{short_line, printed_line, lettered_line}
use Rattle.ssi_line.proofs.laws.commands_are_words.Goals as goal

pub returns : goal.returns
returns c = record { short = short_line; printed = printed_line; lettered = lettered_line }
