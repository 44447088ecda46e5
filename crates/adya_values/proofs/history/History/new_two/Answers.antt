use Rattle.std.proofs.Common.{rules}
use Rattle.adya_values.proofs.history.History.new_two.Goals as goal

pub returns-then-not-numbers_rise-clause-back : goal.returns-then-not-numbers_rise-clause-back
returns-then-not-numbers_rise-clause-back c = search rules

pub invariant_of-result : goal.invariant_of-result
invariant_of-result c = search rules
