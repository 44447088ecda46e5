-- The edges of the parts of a history: of an order line, of an event, and of a place that an event reads or selects.
use Rattle.std.specs.Prelude.{ℕ, not, Bool, List, [], ◌∷◌, ◌++◌, Some, if◌then◌else◌, map, slice_get, slice_index_or}
use Rattle.adya_values.specs.Meaning.Histories.{Event, History}
use Rattle.adya_values.specs.Meaning.Events.{txn_of, is_committed}
use Rattle.adya_values.specs.Meaning.Edges.{Ww, Edge}
use Rattle.adya_values.specs.Computing.EdgeList.{joined, write_edges, read_edges, overwrite_edges, event_edges}
use Rattle.adya_values.specs.Computing.Certificates.{is_forward}
use Rattle.adya_dsg.specs.Machinery.Choices.{Choice}

-- the write dependencies of a line: from each writer to the next
abbrev pub line_edges : List ℕ → List ℕ → List Edge
line_edges k [] = []
line_edges k (x ∷ ws) = joined Ww k (Some x) (slice_get ws 0) ++ line_edges k ws

abbrev pub choice_edges : History → Event → Choice → List Edge
choice_edges h e c = read_edges h e c.key c.place ++ overwrite_edges h e c.key c.place

abbrev pub is_backward : List ℕ → Edge → Bool
is_backward ts e = not (is_forward ts e)

-- the edges of an event, if its transaction has committed
abbrev pub committed_edges : History → Event → List Edge
committed_edges h e = if is_committed h.events (txn_of e) then event_edges h e else []

-- the edges of each order line, and then of each event
abbrev pub parts : History → List (List Edge)
parts h = map (λ o. write_edges h o.key) h.orders ++ map (committed_edges h) h.events

abbrev pub part_edges : History → ℕ → List Edge
part_edges h i = slice_index_or (parts h) i []
