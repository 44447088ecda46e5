use Rattle.std.proofs.Common.{rules}
use Rattle.lists_verdicts.proofs.phenomenon.Phenomenon.name.Goals as goal

pub returns-in-AbortedRead : goal.returns-in-AbortedRead
returns-in-AbortedRead c = search rules
