use Rattle.std.proofs.Common.{rules}
use Rattle.ssi_certify.proofs.Accepted.{safe_by}
use Rattle.ssi_certify.proofs.certificate.certify.Goals as goal

pub certified-requires : goal.certified-requires
certified-requires c = safe_by _ _ _ c.history.ensures.same c.history.ensures.safe

pub returns-clause-accepted : goal.returns-clause-accepted
returns-clause-accepted c = search rules
