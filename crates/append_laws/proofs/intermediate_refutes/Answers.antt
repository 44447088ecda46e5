use Rattle.append_laws.proofs.Refutations as refutations
use Rattle.append_laws.proofs.intermediate_refutes.Goals as goal

pub returns : goal.returns
returns c h t u k x xs before differ r seen theirs apart never = refutations.intermediate_refutes h t u k x xs before differ r seen theirs apart never
