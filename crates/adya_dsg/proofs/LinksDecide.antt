-- Links are edges, and decide whether all edges go forward.
use Rattle.std.proofs.Common.{◌≡◌, ◌≢◌, ◌↔◌, ℕ, ◌<◌, ◌≤◌, ◌==◌, Bool, true, false, not, ◌&&◌, nat_lt, List, ◌++◌, map, option_map, Option, Some, None, is_some, refl, sym, ◌∙◌, ap, subst, arith, inl, inr, ltb-true}
use Rattle.std.specs.List.{find, filter, flat_map, list_all, Contains}
use Rattle.std.proofs.lemmas.Bool.{eq-eqb, eqb-true, lt-ltb, and_parts, and_from, or_cases, or_left, not_from_true, not-false}
use Rattle.std.proofs.lemmas.Option.{none-some, same_Some}
use Rattle.std.proofs.lemmas.List.{map-append}
use Rattle.std.proofs.lemmas.List.Elements.{Contains-append_left, Contains-append_right, Contains-append_cases}
use Rattle.adya_values.specs.Meaning.Histories.{Event, Order, History}
use Rattle.adya_keys.specs.Meaning.Keys.{keys_rise}
use Rattle.adya_values.specs.Meaning.Events.{txn_of, is_committed}
use Rattle.adya_values.specs.Meaning.Orders.{place, installer}
use Rattle.adya_values.specs.Meaning.Selections.{is_scan, changes_matches, selected, reads_from, overwritten_by}
use Rattle.adya_values.specs.Meaning.Edges.{Wr, Rw, Edge}
use Rattle.adya_values.specs.Computing.EdgeList.{places, joined, write_edges, read_edges, overwrite_edges, place_edges, event_edges, dependencies, edge_list}
use Rattle.adya_values.specs.Clauses.Acceptance.{IsChecked, IsBefore}
use Rattle.adya_values.specs.Computing.Certificates.{is_forward, first_backward}
use Rattle.adya_laws.specs.Laws.{EdgeListKeepsFirst, SelectedIsInstalled}
use Rattle.digraph.specs.declared.arc.Arc.{Arc}
use Rattle.adya_dsg.specs.declared.edge.Edge.{Edge as EdgeValue}
use Rattle.adya_dsg.specs.Mirror.{edge_of}
use Rattle.adya_dsg.specs.Machinery.Choices.{Choice, choice, choices}
use Rattle.adya_dsg.specs.Machinery.Links.{installer_at, choice_links, event_links, links}
use Rattle.adya_dsg.specs.Machinery.PartEdges.{line_edges, is_backward}
use Rattle.adya_dsg.specs.Machinery.Arcs.{ends, HasEdge, AreEnds, Decide}
use Rattle.lemmas.proofs.Options.{none_unless_some, some_value}
use Rattle.lemmas.proofs.Members.{none_contained, Contains-map, map-source, Contains-flat_map, flat_map-source}
use Rattle.lemmas.proofs.Filters.{Contains-filter, filter-source, Contains-filter_map, filter_map-source}
use Rattle.lemmas.proofs.Finds.{find_none, none_found, find-source, find_when}
use Rattle.lemmas.proofs.Tests.{all_pass, list_all-failed}
use Rattle.adya_dsg.proofs.FlatMaps.{found_in_front, none_in_front}
use Rattle.adya_dsg.proofs.Chains.{first_of, installer_within, installer_there, before_later, earlier_before}
use Rattle.adya_values.proofs.EdgeList.{Contains-joined, joined-source, Contains-places}
use Rattle.adya_dsg.proofs.LineEdges.{write_edges_are}

-- each edge of the list goes forward
abbrev AllForward : List ℕ → List Edge → Type 0
AllForward ts es = (x : Edge) → Contains es x → IsBefore ts x.from x.to

forward_from_none : (ts : List ℕ) (es : List Edge) → find (is_backward ts) es ≡ None → AllForward ts es
forward_from_none ts es none x c =
    ltb-true (place ts x.from) (place ts x.to) (not-false _ (find_none (is_backward ts) es x none c))

-- of edges that all go forward none goes backward, and otherwise there is a first
pub all_forward_none : (ts : List ℕ) (es : List Edge) → list_all (is_forward ts) es ≡ true → find (is_backward ts) es ≡ None
all_forward_none ts es all = none_found (is_backward ts) es (λ x c. ap not (all_pass (is_forward ts) es x all c))

pub not_all_forward : (ts : List ℕ) (es : List Edge) → list_all (is_forward ts) es ≡ false
    → (x : Edge) × (find (is_backward ts) es ≡ Some x)
not_all_forward ts es some =
    let failed = list_all-failed (is_forward ts) es some in
    find_when (is_backward ts) es failed.0 failed.1 (ap not failed.2)

none_from_forward : (ts : List ℕ) (es : List Edge) → AllForward ts es → find (is_backward ts) es ≡ None
none_from_forward ts es forward =
    none_found (is_backward ts) es (λ x c. not_from_true _ (lt-ltb _ _ (forward x c)))

-- what is selected at a place doesn't depend on versions after it
source_upto : (h : History) (e : Event) (k : List ℕ) (p q : ℕ) → reads_from h e k p q ≡ true → q ≤ p
source_upto h e k p q t =
    elim (or_cases _ _ t) [
      | inl s ↦ let same = eqb-true q p s in omega (arith, same)
      | inr s ↦
          let changed = and_parts (is_scan e) (nat_lt q p && changes_matches h k q) s in
          let less = ltb-true q p (and_parts (nat_lt q p) (changes_matches h k q) changed.1).0 in
          omega (arith, less)
    ]

-- a place at which the event reads or selects has an installer, if it has a version at all
abbrev HasInstallers : History → Event → Type 0
HasInstallers h e = (k : List ℕ) (p : ℕ) → selected h e k ≡ Some p → 0 < p → (t : ℕ) × (installer h k p ≡ Some t)

module _ (h : History) (e : Event) (k : List ℕ) (p : ℕ) where
  abbrev source_links : ℕ → List Edge
  source_links q = joined Wr k (installer h k q) (Some (txn_of e))

  abbrev overwriter_links : ℕ → List Edge
  overwriter_links q = joined Rw k (Some (txn_of e)) (installer h k q)

  -- the links of a place are of its edges
  of_source : (x : Edge) → Contains (joined Wr k (installer h k p) (Some (txn_of e))) x
      → Contains (read_edges h e k p) x
  of_source x c =
      let j = joined-source Wr k (installer h k p) (Some (txn_of e)) x c in
      Contains-flat_map source_links (filter (reads_from h e k p) (places h k)) p x
      (Contains-filter (reads_from h e k p) (places h k) p (Contains-places h k p x.from j.from_is)
      (or_left _ _ (eq-eqb p p refl))) c

  of_overwriter : (x : Edge) (o : Option ℕ) → find (overwritten_by h e k p) (places h k) ≡ o
      → Contains (joined Rw k (Some (txn_of e)) (installer_at h k o)) x → Contains (overwrite_edges h e k p) x
  of_overwriter x None found c =
      let j = joined-source Rw k (Some (txn_of e)) None x c in
      absurd (none-some x.to j.to_is)
  of_overwriter x (Some q) found c =
      let at = find-source (overwritten_by h e k p) (places h k) q found in
      Contains-flat_map overwriter_links (filter (overwritten_by h e k p) (places h k)) q x
      (Contains-filter (overwritten_by h e k p) (places h k) q at.0 at.1) c

  of_place : (x : Edge) → Contains (choice_links h e (choice k p)) x → Contains (place_edges h e k (Some p)) x
  of_place x c =
      elim (Contains-append_cases (joined Wr k (installer h k p) (Some (txn_of e))) _ x c) [
        | inl d ↦ Contains-append_left (read_edges h e k p) (overwrite_edges h e k p) x (of_source x d)
        | inr d ↦ Contains-append_right (read_edges h e k p) (overwrite_edges h e k p) x (of_overwriter x _ refl d)
      ]

  -- if the links of a place go forward, so do its edges
  module _ (ts : List ℕ) (writes : AllForward ts (write_edges h k))
      (forward : AllForward ts (choice_links h e (choice k p)))
      (there : 0 < p → (t : ℕ) × (installer h k p ≡ Some t)) where
    source_before : (q a : ℕ) → reads_from h e k p q ≡ true → installer h k q ≡ Some a → a ≢ txn_of e
        → IsBefore ts a (txn_of e)
    source_before q a t i ne =
        let upto = source_upto h e k p q t in
        let low = (installer_within h k q a i).0 in
        let last = there (omega (arith, upto, low)) in
        earlier_before h k ts writes (txn_of e) q p a last.0 upto i last.1 ne
        (λ o. forward (record { from = last.0; kind = Wr; key = k; to = txn_of e })
        (Contains-append_left (joined Wr k (installer h k p) (Some (txn_of e))) _ _
        (Contains-joined Wr k _ _ last.0 (txn_of e) last.1 refl o)))

    overwriter_after : (q b : ℕ) → overwritten_by h e k p q ≡ true → installer h k q ≡ Some b → txn_of e ≢ b
        → IsBefore ts (txn_of e) b
    overwriter_after q b t i ne =
        let within = installer_within h k q b i in
        let low = within.0 in
        let high = within.1 in
        let first = first_of (overwritten_by h e k p) 1 _ q low (omega (arith, high)) t in
        let start = first.low in
        let upto = first.high in
        let next = installer_there h k first.first start (omega (arith, upto, high)) in
        before_later h k ts writes (txn_of e) first.first q next.0 b upto next.1 i ne
        (λ o. forward (record { from = txn_of e; kind = Rw; key = k; to = next.0 })
        (Contains-append_right (joined Wr k (installer h k p) (Some (txn_of e))) _ _
        (Contains-joined Rw k _ _ (txn_of e) next.0 refl (ap (installer_at h k) first.found ∙ next.1) o)))

    place_forward : AllForward ts (place_edges h e k (Some p))
    place_forward x c =
        elim (Contains-append_cases (read_edges h e k p) (overwrite_edges h e k p) x c) [
          | inl d ↦
              let at = flat_map-source source_links (filter (reads_from h e k p) (places h k)) x d in
              let test = filter-source (reads_from h e k p) (places h k) at.0 at.1 in
              let j = joined-source Wr k (installer h k at.0) (Some (txn_of e)) x at.2 in
              let to = same_Some (txn_of e) x.to j.to_is in
              subst (IsBefore ts x.from) to
              (source_before at.0 x.from test.1 j.from_is (λ s. j.apart (s ∙ to)))
          | inr d ↦
              let at = flat_map-source overwriter_links (filter (overwritten_by h e k p) (places h k)) x d in
              let test = filter-source (overwritten_by h e k p) (places h k) at.0 at.1 in
              let j = joined-source Rw k (Some (txn_of e)) (installer h k at.0) x at.2 in
              let from = same_Some (txn_of e) x.from j.from_is in
              subst (λ t. IsBefore ts t x.to) from
              (overwriter_after at.0 x.to test.1 j.to_is (λ s. j.apart (sym from ∙ s)))
        ]

module _ (h : History) (e : Event) where
  abbrev choice_at : Order → Option Choice
  choice_at o = option_map (choice o.key) (selected h e o.key)

  of_choice : (k : List ℕ) (s : Option ℕ) (c : Choice) (x : Edge) → option_map (choice k) s ≡ Some c
      → Contains (choice_links h e c) x → Contains (place_edges h e k s) x
  of_choice k None c x made d = absurd (none-some c made)
  of_choice k (Some p) c x made d =
      of_place h e k p x (subst (λ j. Contains (choice_links h e j) x) (sym (same_Some (choice k p) c made)) d)

  -- the links of an event are of its edges
  of_event : (x : Edge) → Contains (event_links h e) x → Contains (event_edges h e) x
  of_event x c =
      let at = flat_map-source (choice_links h e) (choices h e) x c in
      let line = filter_map-source choice_at h.orders at.0 at.1 in
      Contains-flat_map (λ (o : Order). place_edges h e o.key (selected h e o.key)) h.orders line.0 x line.1
      (of_choice line.0.key (selected h e line.0.key) at.0 x line.2 at.2)

  module _ (ts : List ℕ) (there : HasInstallers h e)
      (writes : AllForward ts (flat_map (λ (o : Order). write_edges h o.key) h.orders))
      (forward : AllForward ts (event_links h e)) where
    line_forward : (o : Order) → Contains h.orders o → (s : Option ℕ) → selected h e o.key ≡ s
        → AllForward ts (place_edges h e o.key s)
    line_forward o in' None selects x c = absurd (none_contained x c)
    line_forward o in' (Some p) selects x c =
        place_forward h e o.key p ts
        (λ y d. writes y (Contains-flat_map (λ (r : Order). write_edges h r.key) h.orders o y in' d))
        (λ y d. forward y (Contains-flat_map (choice_links h e) (choices h e) (choice o.key p) y
        (Contains-filter_map choice_at h.orders o (choice o.key p) in' (ap (option_map (choice o.key)) selects)) d))
        (there o.key p selects) x c

    -- if the links of an event go forward, so do its edges
    event_forward : AllForward ts (event_edges h e)
    event_forward x c =
        let at = flat_map-source (λ (o : Order). place_edges h e o.key (selected h e o.key)) h.orders x c in
        line_forward at.0 at.1 (selected h e at.0.key) refl x at.2

module _ (h : History) where
  abbrev pub all_writes : List Edge
  all_writes = flat_map (λ (o : Order). write_edges h o.key) h.orders

  abbrev of_committed : Event → Bool
  of_committed e = is_committed h.events (txn_of e)

  abbrev pub readers : List Event
  readers = filter of_committed h.events

  -- links are edges
  of_history : (x : Edge) → Contains (links h) x → Contains (dependencies h) x
  of_history x c =
      elim (Contains-append_cases all_writes (flat_map (event_links h) readers) x c) [
        | inl d ↦ Contains-append_left all_writes (flat_map (event_edges h) readers) x d
        | inr d ↦
            let at = flat_map-source (event_links h) readers x d in
            Contains-append_right all_writes (flat_map (event_edges h) readers) x
            (Contains-flat_map (event_edges h) readers at.0 x at.1 (of_event h at.0 x at.2))
      ]

  -- if the links go forward, so do the edges
  all_forward : ((e : Event) → Contains h.events e → is_committed h.events (txn_of e) ≡ true → HasInstallers h e)
      → (ts : List ℕ) → AllForward ts (links h) → AllForward ts (dependencies h)
  all_forward there ts forward x c =
      let writes = λ (y : Edge) (d : Contains all_writes y).
      forward y (Contains-append_left all_writes (flat_map (event_links h) readers) y d) in
      elim (Contains-append_cases all_writes (flat_map (event_edges h) readers) x c) [
        | inl d ↦ writes x d
        | inr d ↦
            let at = flat_map-source (event_edges h) readers x d in
            let test = filter-source of_committed h.events at.0 at.1 in
            event_forward h at.0 ts (there at.0 test.0 test.1) writes
            (λ y l. forward y (Contains-append_right all_writes (flat_map (event_links h) readers) y
            (Contains-flat_map (event_links h) readers at.0 y at.1 l))) x at.2
      ]

has_installers : SelectedIsInstalled → (h : History) → IsChecked h → (e : Event) → Contains h.events e
    → is_committed h.events (txn_of e) ≡ true → HasInstallers h e
has_installers law h checked e occurs committed k p = law h e k p checked occurs committed

module _ (keeps_first : EdgeListKeepsFirst) (h : History) where
  -- the ends of an edge
  abbrev joins : Edge → Edge → Bool
  joins x y = (y.from == x.from) && (y.to == x.to)

  has_edge : (x : Edge) → Contains (dependencies h) x → HasEdge (edge_list h) (ends x)
  has_edge x c =
      let there = find_when (joins x) (dependencies h) x c (and_from _ _ (eq-eqb x.from x.from refl) (eq-eqb x.to x.to refl)) in
      let at = find-source (joins x) (edge_list h) there.0 (keeps_first h (joins x) ∙ there.1) in
      let same = and_parts _ _ at.1 in
      record { edge = there.0; stands = at.0; from = eqb-true _ _ same.0; to = eqb-true _ _ same.1 }

  listed_forward : (ts : List ℕ) → AllForward ts (dependencies h) → AllForward ts (edge_list h)
  listed_forward ts forward =
      forward_from_none ts (edge_list h) (keeps_first h (is_backward ts) ∙ none_from_forward ts (dependencies h) forward)

  module _ (arcs : List Arc) where
    pub links_are_ends : arcs ≡ map ends (links h) → AreEnds (edge_list h) arcs
    links_are_ends are a c =
        let x = map-source ends (links h) a (subst (λ zs. Contains zs a) are c) in
        subst (HasEdge (edge_list h)) x.2 (has_edge x.0 (of_history h x.0 x.1))

    pub links_decide : arcs ≡ map ends (links h) → SelectedIsInstalled → IsChecked h → Decide (edge_list h) arcs
    links_decide are law checked ts forward =
        listed_forward ts
        (all_forward h (has_installers law h checked) ts (λ x c.
        forward (ends x) (subst (λ zs. Contains zs (ends x)) (sym are) (Contains-map ends (links h) x c))))

    -- the arcs of all edges, with or without repeats
    module _ (are : (a : Arc) → Contains arcs a ↔ Contains (map ends (dependencies h)) a) where
      pub edges_are_ends : AreEnds (edge_list h) arcs
      edges_are_ends a c =
          let x = map-source ends (dependencies h) a ((are a).0 c) in
          subst (HasEdge (edge_list h)) x.2 (has_edge x.0 x.1)

      pub edges_decide : Decide (edge_list h) arcs
      edges_decide ts forward =
          listed_forward ts (λ x c. forward (ends x) ((are (ends x)).1 (Contains-map ends (dependencies h) x c)))

-- an event whose links go forward has no backward edge
pub none_of_event : SelectedIsInstalled → (h : History) → IsChecked h → (e : Event) → Contains h.events e
    → is_committed h.events (txn_of e) ≡ true → (ts : List ℕ)
    → find (is_backward ts) (flat_map (λ (o : Order). write_edges h o.key) h.orders) ≡ None
    → find (is_backward ts) (event_links h e) ≡ None → find (is_backward ts) (event_edges h e) ≡ None
none_of_event law h checked e occurs committed ts writes links =
    none_from_forward ts (event_edges h e)
    (event_forward h e ts (has_installers law h checked e occurs committed) (forward_from_none ts _ writes)
    (forward_from_none ts _ links))

-- the ends of the links, by lines and by events
pub ends_by_parts : (h : History) → keys_rise (map (λ (o : Order). o.key) h.orders) ≡ true
    → map ends (flat_map (λ (o : Order). line_edges o.key o.writers) h.orders)
    ++ map ends (flat_map (event_links h) (readers h)) ≡ map ends (links h)
ends_by_parts h rise =
    let of_events = flat_map (event_links h) (readers h) in
    sym (map-append ends (flat_map (λ (o : Order). line_edges o.key o.writers) h.orders) of_events) ∙
    ap (λ es. map ends (es ++ of_events)) (sym (write_edges_are h rise))

-- the first backward edge: that of the lines, else that of the events
module _ (h : History) (rise : keys_rise (map (λ (o : Order). o.key) h.orders) ≡ true) (os : List Order) (lines : os ≡ h.orders)
    (ts : List ℕ) (o : Option EdgeValue)
    (found : option_map edge_of o ≡ find (is_backward ts) (flat_map (λ (x : Order). line_edges x.key x.writers) os)) where
  of_writes : find (is_backward ts) (all_writes h) ≡ option_map edge_of o
  of_writes =
      ap (find (is_backward ts))
      (write_edges_are h rise ∙ ap (flat_map (λ (x : Order). line_edges x.key x.writers)) (sym lines)) ∙
      sym found

  pub no_backward_write : is_some o ≡ false → find (is_backward ts) (all_writes h) ≡ None
  no_backward_write none = of_writes ∙ ap (option_map edge_of) (none_unless_some o none)

  pub first_is_of_writes : EdgeListKeepsFirst → is_some o ≡ true → option_map edge_of o ≡ first_backward h ts
  first_is_of_writes keeps_first some =
      let there = some_value o some in
      let is = ap (option_map edge_of) there.1 in
      is ∙
      sym (keeps_first h (is_backward ts) ∙
      found_in_front (is_backward ts) (dependencies h) (all_writes h) (flat_map (event_edges h) (readers h)) (edge_of there.0) refl
      (of_writes ∙ is))

  pub first_is_of_reads : EdgeListKeepsFirst → is_some o ≡ false
      → find (is_backward ts) (flat_map (event_edges h) (readers h)) ≡ first_backward h ts
  first_is_of_reads keeps_first none =
      sym (keeps_first h (is_backward ts) ∙
      none_in_front (is_backward ts) (dependencies h) (all_writes h) (flat_map (event_edges h) (readers h)) refl
      (no_backward_write none))
