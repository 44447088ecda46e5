-- The plain edge that an edge holds, and lists of the edges of a history.
use Rattle.std.specs.Prelude.{◌↔◌, List, Contains}
use Rattle.adya_values.specs.Meaning.Histories.{History}
use Rattle.adya_values.specs.Meaning.Edges.{Kind, Ww, Wr, Rw, Edge, IsEdge}
use Rattle.adya_dsg.specs.declared.edge.Kind.{Kind as KindValue}
use Rattle.adya_dsg.specs.declared.edge.Kind.TheVariants as In
use Rattle.adya_dsg.specs.declared.edge.Edge.{Edge as EdgeValue}

abbrev pub kind_of : KindValue → Kind
kind_of In.Ww = Ww
kind_of In.Wr = Wr
kind_of In.Rw = Rw

abbrev pub edge_of : EdgeValue → Edge
edge_of e = record { from = e.from; kind = kind_of e.kind; key = e.key; to = e.to }

-- the edges of the graph and no other
abbrev pub AreEdges : History → List Edge → Type 0
AreEdges h es = (e : Edge) → IsEdge h e ↔ Contains es e
