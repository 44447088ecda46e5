use Rattle.std.proofs.Common.{rules}
use Rattle.adya_values.proofs.history.History.new.Goals as goal

pub returns-then-not-is_shape-clause-back : goal.returns-then-not-is_shape-clause-back
returns-then-not-is_shape-clause-back c = search rules
