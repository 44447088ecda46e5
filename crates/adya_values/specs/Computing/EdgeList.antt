-- The edges of a history as one list, which computes `IsEdge`.
use Rattle.std.specs.Prelude.{ℕ, zero, suc, ◌==◌, Bool, true, false, ◌&&◌, if◌then◌else◌, List, [], ◌∷◌, ◌++◌, length, Option, Some, None, filter, flat_map, fold}
use Rattle.std.specs.List.{list_any}
use Rattle.adya_keys.specs.Meaning.Keys.{key_eq}
use Rattle.adya_values.specs.Meaning.Histories.{Event, History}
use Rattle.adya_values.specs.Meaning.Events.{txn_of, is_committed}
use Rattle.adya_values.specs.Meaning.Orders.{writers, installer}
use Rattle.adya_values.specs.Meaning.Selections.{selected, reads_from, overwritten_by}
use Rattle.adya_values.specs.Meaning.Edges.{Kind, Ww, Wr, Rw, Edge}

-- n numbers from this one on
abbrev pub numbers : ℕ → ℕ → List ℕ
numbers from zero = []
numbers from (suc n) = from ∷ numbers (suc from) n

-- the places of the key's installed versions
abbrev pub places : History → List ℕ → List ℕ
places h k = numbers 1 (length (writers h k))

-- the edge, unless it joins a transaction with itself or lacks an end
abbrev pub joined : Kind → List ℕ → Option ℕ → Option ℕ → List Edge
joined kind k None b = []
joined kind k (Some a) None = []
joined kind k (Some a) (Some b) = if a == b then [] else record { from = a; kind = kind; key = k; to = b } ∷ []

abbrev pub write_edges : History → List ℕ → List Edge
write_edges h k = flat_map (λ q. joined Ww k (installer h k q) (installer h k (suc q))) (places h k)

-- the edges of an event on the key, if it sees the version at place p
abbrev pub read_edges : History → Event → List ℕ → ℕ → List Edge
read_edges h e k p = flat_map (λ q. joined Wr k (installer h k q) (Some (txn_of e))) (filter (reads_from h e k p) (places h k))

abbrev pub overwrite_edges : History → Event → List ℕ → ℕ → List Edge
overwrite_edges h e k p = flat_map (λ q. joined Rw k (Some (txn_of e)) (installer h k q)) (filter (overwritten_by h e k p) (places h k))

abbrev pub place_edges : History → Event → List ℕ → Option ℕ → List Edge
place_edges h e k None = []
place_edges h e k (Some p) = read_edges h e k p ++ overwrite_edges h e k p

abbrev pub event_edges : History → Event → List Edge
event_edges h e = flat_map (λ o. place_edges h e o.key (selected h e o.key)) h.orders

-- write dependencies by key and place, and then those of the committed transactions' events by line
abbrev pub dependencies : History → List Edge
dependencies h =
    flat_map (λ o. write_edges h o.key) h.orders ++
    flat_map (event_edges h) (filter (λ e. is_committed h.events (txn_of e)) h.events)

abbrev pub kind_eq : Kind → Kind → Bool
kind_eq Ww Ww = true
kind_eq Ww Wr = false
kind_eq Ww Rw = false
kind_eq Wr Ww = false
kind_eq Wr Wr = true
kind_eq Wr Rw = false
kind_eq Rw Ww = false
kind_eq Rw Wr = false
kind_eq Rw Rw = true

abbrev pub edge_eq : Edge → Edge → Bool
edge_eq a b = (a.from == b.from) && kind_eq a.kind b.kind && key_eq a.key b.key && (a.to == b.to)

-- the list with the edge at its end, unless it has the edge already
abbrev pub with_edge : List Edge → Edge → List Edge
with_edge seen e = if list_any (edge_eq e) seen then seen else seen ++ e ∷ []

-- each edge once, in the order of their first occurrences
abbrev pub edge_list : History → List Edge
edge_list h = fold with_edge [] (dependencies h)
