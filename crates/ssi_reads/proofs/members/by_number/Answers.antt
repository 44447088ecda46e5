use Rattle.std.proofs.Common.{rules}
use Rattle.ssi_reads.proofs.members.by_number.Goals as goal

pub returns-clause-exact : goal.returns-clause-exact
returns-clause-exact c = search rules
