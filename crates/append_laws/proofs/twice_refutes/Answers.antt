use Rattle.append_laws.proofs.Refutations as refutations
use Rattle.append_laws.proofs.twice_refutes.Goals as goal

pub returns : goal.returns
returns c h t k x xs before differ single r twice = refutations.twice_refutes h t k x xs before differ single r twice
