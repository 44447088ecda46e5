use Rattle.std.proofs.Common.{rules}
use Rattle.append_check.proofs.checker.examine.Goals as goal

pub returns-then-branch-clause-right : goal.returns-then-branch-clause-right
returns-then-branch-clause-right c = search rules
