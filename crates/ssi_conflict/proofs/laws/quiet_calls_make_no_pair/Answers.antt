use Rattle.ssi_conflict.proofs.PairsByCall.{pair_before_abort, pair_before_begin}
use Rattle.ssi_conflict.proofs.laws.quiet_calls_make_no_pair.Goals as goal

pub returns-clause-begins : goal.returns-clause-begins
returns-clause-begins c t s calls a r u p = pair_before_begin t s calls a r u p

pub returns-clause-aborts : goal.returns-clause-aborts
returns-clause-aborts c t calls r u p = pair_before_abort t calls r u p
