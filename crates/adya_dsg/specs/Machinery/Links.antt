-- The links of a history: the few edges that decide whether all of them go forward. They are the write dependencies,
-- and of what a committed transaction reads or selects the read dependency on its installer and the anti-dependency
-- on its first overwriter.
use Rattle.std.specs.Prelude.{ℕ, List, ◌++◌, Option, Some, None, filter, flat_map}
use Rattle.std.specs.List.{find}
use Rattle.adya_values.specs.Meaning.Histories.{Event, History}
use Rattle.adya_values.specs.Meaning.Events.{txn_of, is_committed}
use Rattle.adya_values.specs.Meaning.Orders.{installer}
use Rattle.adya_values.specs.Meaning.Selections.{overwritten_by, changes_matches}
use Rattle.adya_values.specs.Meaning.Edges.{Wr, Rw, Edge}
use Rattle.adya_values.specs.Computing.EdgeList.{places, joined, write_edges}
use Rattle.adya_dsg.specs.Machinery.Choices.{Choice, choices}

-- the places whose version changes the matches
abbrev pub changed_places : History → List ℕ → List ℕ
changed_places h k = filter (changes_matches h k) (places h k)

abbrev pub installer_at : History → List ℕ → Option ℕ → Option ℕ
installer_at h k None = None
installer_at h k (Some q) = installer h k q

-- who installed the first version that overwrites what the event selects at the place
abbrev pub overwriter : History → Event → List ℕ → ℕ → Option ℕ
overwriter h e k p = installer_at h k (find (overwritten_by h e k p) (places h k))

abbrev pub choice_links : History → Event → Choice → List Edge
choice_links h e c =
    joined Wr c.key (installer h c.key c.place) (Some (txn_of e)) ++
    joined Rw c.key (Some (txn_of e)) (overwriter h e c.key c.place)

abbrev pub event_links : History → Event → List Edge
event_links h e = flat_map (choice_links h e) (choices h e)

abbrev pub links : History → List Edge
links h =
    flat_map (λ o. write_edges h o.key) h.orders ++
    flat_map (event_links h) (filter (λ e. is_committed h.events (txn_of e)) h.events)
