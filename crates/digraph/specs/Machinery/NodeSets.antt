-- Sets of nodes.
use Rattle.std.specs.Prelude.{ℕ, Bool}
use Rattle.std.specs.BTreeSet.{contains}
use Rattle.std.specs.Ordering.{nat_cmp}
use Rattle.digraph.specs.declared.node_set.NodeSet.{NodeSet}
use Rattle.digraph.specs.declared.node_set.NodeSet.TheVariants.{Marks, Tree}
use Rattle.digraph.specs.Machinery.Marks.{is_marked}

-- whether the node is in the set
abbrev pub has : NodeSet → ℕ → Bool
has (Marks set) q = is_marked set.least set.marks.items q
has (Tree set) q = contains nat_cmp set q
