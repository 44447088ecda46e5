use Rattle.adya_audit.proofs.UnlistedCommitted.{not_the_committed}
use Rattle.adya_audit.proofs.laws.not_the_committed_iff_unlisted.Goals as goal

pub returns : goal.returns
returns c = not_the_committed c.checked_iff_no_fault.ensures.exact
