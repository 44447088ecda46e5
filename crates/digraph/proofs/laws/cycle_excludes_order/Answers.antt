use Rattle.digraph.proofs.Cycles.{no_cycle}
use Rattle.digraph.proofs.laws.cycle_excludes_order.Goals as goal

pub returns : goal.returns
returns c arcs path cycle ts forward = no_cycle arcs ts forward path cycle
