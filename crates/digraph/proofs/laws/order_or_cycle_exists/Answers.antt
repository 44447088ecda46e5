use Rattle.digraph.proofs.Existence.{sorted_or_cyclic}
use Rattle.digraph.proofs.laws.order_or_cycle_exists.Goals as goal

pub returns : goal.returns
returns c nodes arcs graph = sorted_or_cyclic nodes arcs graph
