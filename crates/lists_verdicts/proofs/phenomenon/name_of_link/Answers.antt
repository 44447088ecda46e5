use Rattle.std.proofs.Common.{rules}
use Rattle.lists_verdicts.proofs.phenomenon.name_of_link.Goals as goal

pub returns-in-ReadWrite : goal.returns-in-ReadWrite
returns-in-ReadWrite c = search rules
