use Rattle.std.proofs.Common.{rules}
use Rattle.ssi_line.proofs.dump.both_texts.Goals as goal

pub returns : goal.returns
returns c = search rules
