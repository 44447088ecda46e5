use Rattle.std.proofs.Common.{rules}
use Rattle.append_text.proofs.pairing.outcome_of.Goals as goal

pub returns-in-Fail : goal.returns-in-Fail
returns-in-Fail c = search rules
