use Rattle.std.proofs.Common.{rules}
use Rattle.adya_terms.proofs.reads.BadRead.allows.Goals as goal

pub returns-else-eq : goal.returns-else-eq
returns-else-eq c = search rules
