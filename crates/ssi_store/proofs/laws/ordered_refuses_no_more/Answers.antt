use Rattle.ssi_store.proofs.UnsafeAnswers.{ordered_refuses_no_more}
use Rattle.ssi_store.proofs.laws.ordered_refuses_no_more.Goals as goal

pub returns : goal.returns
returns c d m p e = ordered_refuses_no_more d m p e
