use Rattle.append_laws.proofs.Refutations as refutations
use Rattle.append_laws.proofs.internal_refutes.Goals as goal

pub returns : goal.returns
returns c h t k xs before r never = refutations.internal_refutes h t k xs before r never
