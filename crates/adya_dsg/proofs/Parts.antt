-- The parts of a history: one of them, and the edges of the first ones and of all.
use Rattle.std.proofs.Common.{◌≡◌, ℕ, ◌+◌, ◌<◌, ◌≤◌, ◌-◌, Bool, true, false, cond, List, [], ◌∷◌, ◌++◌, map, filter, flat_map, take, get_or, slice_get, Some, length, Contains, ◌↔◌, inl, inr, refl, sym, ◌∙◌, ap, subst, append-nil, arith}
use Rattle.std.proofs.lemmas.Grind.{flat_map-append}
use Rattle.std.proofs.lemmas.Option.{slice_get_within, get_or_from_slice_get}
use Rattle.std.proofs.lemmas.List.{take_all, take_more, get_or-map, get_or_append_left, get_or-append_right, length-append, length-map, map-append}
use Rattle.std.proofs.lemmas.List.Elements.{Contains-append_left, Contains-append_right, Contains-append_cases}
use Rattle.std.proofs.lemmas.List.Folds.{flat_map-map}
use Rattle.adya_values.specs.Meaning.Histories.{Event, Order, History}
use Rattle.adya_values.specs.Meaning.Events.{txn_of, is_committed}
use Rattle.adya_values.specs.Meaning.Orders.{writers}
use Rattle.adya_values.specs.Meaning.Edges.{Edge}
use Rattle.adya_values.specs.Computing.EdgeList.{write_edges, event_edges, dependencies}
use Rattle.adya_terms.specs.Mirror.LineNumbers.{key_of}
use Rattle.digraph.specs.declared.arc.Arc.{Arc}
use Rattle.adya_dsg.specs.declared.edge.Edge.{Edge as EdgeValue}
use Rattle.adya_dsg.specs.Machinery.Arcs.{ends}
use Rattle.adya_dsg.specs.Mirror.{edge_of}
use Rattle.adya_dsg.specs.Machinery.Choices.{event_at, key_at}
use Rattle.adya_dsg.specs.Machinery.PartEdges.{line_edges, committed_edges, parts, part_edges}
use Rattle.adya_dsg.proofs.EventsAt.{found_at}
use Rattle.adya_dsg.proofs.FlatMaps.{filtered}
use Rattle.adya_dsg.proofs.LineEdges.{line_edges-places}
use Rattle.lemmas.proofs.Steps.{turn_below}

-- the edges of the parts before this one
abbrev pub edges_before : History → ℕ → List Edge
edges_before h i = flat_map (λ es. es) (take i (parts h))

pub one_more : (h : History) (i : ℕ) → i < length (parts h) → edges_before h (i + 1) ≡ edges_before h i ++ part_edges h i
one_more h i l =
    ap (flat_map (λ es. es)) (take_more (parts h) i [] l) ∙
    (flat_map-append (λ es. es) (take i (parts h)) (part_edges h i ∷ []) ∙
    ap (λ es. edges_before h i ++ es) (append-nil (part_edges h i)))

-- what the elements that pass a test give
of_tested : {X A : Type 0} (test : X → Bool) (f : X → List A) (xs : List X)
    → flat_map (λ x. cond (test x) (f x) []) xs ≡ flat_map f (filter test xs)
of_tested test f [] = refl
of_tested test f (x ∷ xs) =
    ap (λ ys. cond (test x) (f x) [] ++ ys) (of_tested test f xs) ∙ sym (filtered test f (x ∷ xs) xs x refl (test x) refl)

pub all_parts : (h : History) (n : ℕ) → length (parts h) ≤ n → edges_before h n ≡ dependencies h
all_parts h n l =
    let of_line : Order → List Edge = λ o. write_edges h o.key in
    ap (flat_map (λ es. es)) (take_all n (parts h) l) ∙
    (flat_map-append (λ es. es) (map of_line h.orders) (map (committed_edges h) h.events) ∙
    (ap (λ es. es ++ flat_map (λ (zs : List Edge). zs) (map (committed_edges h) h.events)) (flat_map-map (λ es. es) of_line h.orders) ∙
    ap (λ es. flat_map of_line h.orders ++ es)
    (flat_map-map (λ es. es) (committed_edges h) h.events ∙
    of_tested (λ (e : Event). is_committed h.events (txn_of e)) (event_edges h) h.events)))

-- the part of a line
of_line_at : (h : History) (i : ℕ) (o : Order) → i < length h.orders → o ≡ get_or h.orders i o
    → write_edges h o.key ≡ part_edges h i
of_line_at h i o l at =
    let of_line : Order → List Edge = λ x. write_edges h x.key in
    ap of_line at ∙
    (sym (get_or-map of_line h.orders i o [] l) ∙
    sym (get_or_append_left (map of_line h.orders) (map (committed_edges h) h.events) [] i
    (subst (λ n. i < n) (sym (length-map h.orders of_line)) l)))

-- the part of an event
of_event_at : (h : History) (n i : ℕ) (e : Event) → length h.orders ≡ n → n ≤ i
    → slice_get h.events (i - n) ≡ Some e → committed_edges h e ≡ part_edges h i
of_event_at h n i e lines after found =
    let of_line : Order → List Edge = λ x. write_edges h x.key in
    ap (committed_edges h) (sym (get_or_from_slice_get h.events (i - n) e e found)) ∙
    (sym (get_or-map (committed_edges h) h.events (i - n) e [] (slice_get_within h.events (i - n) e found)) ∙
    sym (get_or-append_right (map of_line h.orders) (map (committed_edges h) h.events) n i []
    (length-map h.orders of_line ∙ lines) after))

-- that event is there
pub event_within : (h : History) (n i : ℕ) → length h.orders ≡ n → n ≤ i → i < length (parts h) → i - n < length h.events
event_within h n i lines after l =
    let of_line : Order → List Edge = λ x. write_edges h x.key in
    let all = length-append (map of_line h.orders) (map (committed_edges h) h.events) in
    let of_orders = length-map h.orders of_line in
    let of_events = length-map h.events (committed_edges h) in
    omega (arith, l, all, of_orders, of_events, lines, after)

-- the part of a line, by its writers
pub of_line : (h : History) (i : ℕ) → i < length h.orders → line_edges (key_at h i) (writers h (key_at h i)) ≡ part_edges h i
of_line h i l =
    let at = turn_below h.orders i l in
    let o = at.0 in
    line_edges-places h (key_at h i) ∙
    (ap (λ x. write_edges h (key_of x)) at.1.found ∙
    of_line_at h i o l (sym (get_or_from_slice_get h.orders i o o at.1.found)))

-- the part of an event
module _ (h : History) (n i : ℕ) (lines : length h.orders ≡ n) (after : n ≤ i) (l : i < length (parts h)) where
  abbrev e : Event
  e = event_at h (i - n)

  here : committed_edges h e ≡ part_edges h i
  here = of_event_at h n i e lines after (found_at h.events (i - n) (event_within h n i lines after l))

  pub of_committed : is_committed h.events (txn_of e) ≡ true → event_edges h e ≡ part_edges h i
  of_committed c = sym (ap (λ b. cond b (event_edges h e) []) c) ∙ here

  pub of_other : is_committed h.events (txn_of e) ≡ false → part_edges h i ≡ []
  of_other c = sym here ∙ ap (λ b. cond b (event_edges h e) []) c

-- arcs of the parts so far, with those of one more
pub arcs_more : (h : History) (i : ℕ) → i < length (parts h) → (arcs now : List Arc)
    → ((a : Arc) → Contains arcs a ↔ Contains (map ends (edges_before h i)) a) → now ≡ arcs ++ map ends (part_edges h i)
    → (a : Arc) → Contains now a ↔ Contains (map ends (edges_before h (i + 1))) a
arcs_more h i l arcs now had adds a =
    let before = map ends (edges_before h i) in
    let here = map ends (part_edges h i) in
    let all : map ends (edges_before h (i + 1)) ≡ before ++ here =
    ap (map ends) (one_more h i l) ∙ map-append ends (edges_before h i) (part_edges h i) in (
      λ c. subst (λ zs. Contains zs a) (sym all)
          (elim (Contains-append_cases arcs here a (subst (λ zs. Contains zs a) adds c)) [
            | inl d ↦ Contains-append_left before here a ((had a).0 d)
            | inr d ↦ Contains-append_right before here a d
          ]),
      λ c. subst (λ zs. Contains zs a) (sym adds)
          (elim (Contains-append_cases before here a (subst (λ zs. Contains zs a) all c)) [
            | inl d ↦ Contains-append_left arcs here a ((had a).1 d)
            | inr d ↦ Contains-append_right arcs here a d
          ]),
    )

-- what a list that was cleared holds after the part's edges were added
pub pushed : (h : History) (i : ℕ) (lent now cleared : List EdgeValue) → lent ≡ now
    → map edge_of now ≡ map edge_of cleared ++ part_edges h i → cleared ≡ [] → map edge_of lent ≡ part_edges h i
pushed h i lent now cleared same adds empty =
    ap (map edge_of) same ∙ (adds ∙ ap (λ zs. map edge_of zs ++ part_edges h i) empty)

pub count_of_parts : (h : History) (m n : ℕ) → m ≡ length h.orders → n ≡ length h.events → m + n ≡ length (parts h)
count_of_parts h m n lines events =
    let of_line : Order → List Edge = λ x. write_edges h x.key in
    let all = length-append (map of_line h.orders) (map (committed_edges h) h.events) in
    let of_orders = length-map h.orders of_line in
    let of_events = length-map h.events (committed_edges h) in
    omega (arith, all, of_orders, of_events, lines, events)
