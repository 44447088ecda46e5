-- The edges of an event are those of the places that it reads or selects.
use Rattle.std.proofs.Common.{◌≡◌, ℕ, List, [], ◌∷◌, ◌++◌, Option, Some, None, option_map, flat_map, refl, sym, ◌∙◌, ap}
use Rattle.std.specs.List.{filter_map, cons_option}
use Rattle.std.proofs.lemmas.Option.{same_Some, none-some}
use Rattle.adya_values.specs.Meaning.Histories.{Event, Order, History}
use Rattle.adya_values.specs.Meaning.Selections.{selected}
use Rattle.adya_values.specs.Computing.EdgeList.{place_edges, event_edges}
use Rattle.adya_dsg.specs.Machinery.Choices.{Choice, choice, choices}
use Rattle.adya_dsg.specs.Machinery.PartEdges.{choice_edges}

one_choice : (h : History) (e : Event) (k : List ℕ) (s : Option ℕ) (cs : List Choice)
    → flat_map (choice_edges h e) (cons_option (option_map (choice k) s) cs)
    ≡ place_edges h e k s ++ flat_map (choice_edges h e) cs
one_choice h e k None cs = refl
one_choice h e k (Some p) cs = refl

by_choices : (h : History) (e : Event) (os : List Order)
    → flat_map (λ o. place_edges h e o.key (selected h e o.key)) os
    ≡ flat_map (choice_edges h e) (filter_map (λ o. option_map (choice o.key) (selected h e o.key)) os)
by_choices h e [] = refl
by_choices h e (o ∷ os) =
    ap (λ es. place_edges h e o.key (selected h e o.key) ++ es) (by_choices h e os) ∙
    sym (one_choice h e o.key (selected h e o.key) _)

pub event_edges_are : (h : History) (e : Event) → event_edges h e ≡ flat_map (choice_edges h e) (choices h e)
event_edges_are h e = by_choices h e h.orders

chosen : (h : History) (e : Event) (k : List ℕ) (c : Choice) (s : Option ℕ) → selected h e k ≡ s
    → option_map (choice k) s ≡ Some c → selected h e c.key ≡ Some c.place
chosen h e k c None is m = absurd (none-some c m)
chosen h e k c (Some p) is m =
    let same = same_Some (choice k p) c m in
    ap (λ (x : Choice). selected h e x.key) (sym same) ∙ (is ∙ ap (λ (x : Choice). Some x.place) same)
