-- The tests of a certificate: they compute `IsAccepted` for a history that passed its check.
use Rattle.std.specs.Prelude.{ℕ, Bool, not, nat_lt, List, Option}
use Rattle.std.specs.List.{find}
use Rattle.adya_values.specs.Meaning.Histories.{History}
use Rattle.adya_values.specs.Meaning.Events.{is_committed}
use Rattle.adya_values.specs.Meaning.Orders.{place}
use Rattle.adya_values.specs.Meaning.Edges.{Edge}
use Rattle.adya_values.specs.Computing.EdgeList.{edge_list}
use Rattle.adya_values.specs.Computing.Faults.{lists_exactly}

-- the list has each committed transaction once, and no other
abbrev pub lists_the_committed : History → List ℕ → Bool
lists_the_committed h ts = lists_exactly (is_committed h.events) ts h.events

abbrev pub is_forward : List ℕ → Edge → Bool
is_forward ts e = nat_lt (place ts e.from) (place ts e.to)

-- the first edge that doesn't go forward
abbrev pub first_backward : History → List ℕ → Option Edge
first_backward h ts = find (λ e. not (is_forward ts e)) (edge_list h)
