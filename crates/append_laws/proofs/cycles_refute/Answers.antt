use Rattle.append_laws.proofs.Necessity.{cycle_refutes}
use Rattle.append_laws.proofs.cycles_refute.Goals as goal

pub returns : goal.returns
returns c h arcs path differ all cycle = cycle_refutes c.cycle_excludes_order.ensures h arcs path differ all cycle
