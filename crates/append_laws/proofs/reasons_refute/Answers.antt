use Rattle.append_laws.proofs.Reasons as reasons
use Rattle.append_laws.proofs.reasons_refute.Goals as goal

pub returns : goal.returns
returns c h reason differ single holds = reasons.reasons_refute h reason differ single holds
