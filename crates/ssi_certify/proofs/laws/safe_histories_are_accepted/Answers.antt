use Rattle.ssi_certify.proofs.Accepted.{safe_accepted}
use Rattle.ssi_certify.proofs.laws.safe_histories_are_accepted.Goals as goal

pub returns : goal.returns
returns c h s = safe_accepted c.safe_histories_have_no_cycle.ensures c.certified_iff_no_phenomenon.ensures h s
