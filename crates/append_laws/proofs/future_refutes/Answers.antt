use Rattle.append_laws.proofs.Refutations as refutations
use Rattle.append_laws.proofs.future_refutes.Goals as goal

pub returns : goal.returns
returns c h t k x xs before differ single r seen later = refutations.future_refutes h t k x xs before differ single r seen later
