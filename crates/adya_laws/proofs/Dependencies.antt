-- The list of dependencies has exactly the edges.
use Rattle.std.proofs.Common.{◌≡◌, ◌≢◌, ℕ, suc, true, List, Option, Some, None, refl, sym, ap, subst, inl, inr}
use Rattle.std.specs.List.{filter, flat_map, Contains}
use Rattle.std.proofs.lemmas.Option.{same_Some}
use Rattle.std.proofs.lemmas.List.Elements.{Contains-append_left, Contains-append_right, Contains-append_cases}
use Rattle.adya_values.specs.Meaning.Histories.{Event, Order, History}
use Rattle.adya_values.specs.Meaning.Events.{txn_of, is_committed}
use Rattle.adya_values.specs.Meaning.Orders.{installer}
use Rattle.adya_values.specs.Meaning.Selections.{selected, reads_from, overwritten_by}
use Rattle.adya_values.specs.Meaning.Edges.{Kind, Ww, Wr, Rw, Edge, Depends, IsEdge}
use Rattle.adya_values.specs.Computing.EdgeList.{places, joined, write_edges, place_edges, event_edges, dependencies}
use Rattle.adya_values.proofs.EdgeList.{Contains-places}
use Rattle.adya_values.proofs.Places.{installer_line}
use Rattle.lemmas.proofs.Filters.{Contains-filter, filter-source}
use Rattle.lemmas.proofs.Members.{none_contained, Contains-flat_map, flat_map-source}
use Rattle.adya_values.proofs.EdgeList.{Joins, Contains-joined, joined-source}

module _ (h : History) where
  -- the list has the edges that an event gives between places of a key's order
  pub Contains-event_edges : (event : Event) (k : List ℕ) (p : ℕ) (e : Edge)
      → (o : Order) × Contains h.orders o × (o.key ≡ k) → Contains h.events event
      → is_committed h.events (txn_of event) ≡ true → selected h event k ≡ Some p
      → Contains (place_edges h event k (Some p)) e → Contains (dependencies h) e
  Contains-event_edges event k p e o occurs committed selects c =
      Contains-append_right (flat_map (λ x. write_edges h x.key) h.orders) _ e
      (Contains-flat_map (event_edges h) (filter (λ x. is_committed h.events (txn_of x)) h.events) event e
      (Contains-filter (λ x. is_committed h.events (txn_of x)) h.events event occurs committed)
      (Contains-flat_map (λ x. place_edges h event x.key (selected h event x.key)) h.orders o.0 e o.1
      (subst (λ j. Contains (place_edges h event j (selected h event j)) e) (sym o.2)
      (subst (λ s. Contains (place_edges h event k s) e) (sym selects) c))))

  pub listed_when_edge : (kind : Kind) (k : List ℕ) (a b : ℕ) → a ≢ b → Depends h kind k a b
      → Contains (dependencies h) (record { from = a; kind = kind; key = k; to = b })
  listed_when_edge Ww k a b ne d =
      let e : Edge = record { from = a; kind = Ww; key = k; to = b } in
      let o = installer_line h k d.0 a d.1 in
      Contains-append_left (flat_map (λ x. write_edges h x.key) h.orders) _ e
      (Contains-flat_map (λ x. write_edges h x.key) h.orders o.0 e o.1
      (subst (λ j. Contains (write_edges h j) e) (sym o.2)
      (Contains-flat_map (λ q. joined Ww k (installer h k q) (installer h k (suc q))) (places h k) d.0 e
      (Contains-places h k d.0 a d.1)
      (Contains-joined Ww k _ _ a b d.1 d.2 ne))))
  listed_when_edge Wr k a b ne d =
      let e : Edge = record { from = a; kind = Wr; key = k; to = b } in
      Contains-event_edges d.event k d.place e (installer_line h k d.source a d.installs) d.occurs
      (subst (λ t. is_committed h.events t ≡ true) (sym d.reader) d.committed) d.selects
      (Contains-append_left _ _ e
      (Contains-flat_map (λ q. joined Wr k (installer h k q) (Some (txn_of d.event)))
      (filter (reads_from h d.event k d.place) (places h k)) d.source e
      (Contains-filter (reads_from h d.event k d.place) (places h k) d.source
      (Contains-places h k d.source a d.installs) d.from_source)
      (Contains-joined Wr k _ _ a b d.installs (ap Some d.reader) ne)))
  listed_when_edge Rw k a b ne d =
      let e : Edge = record { from = a; kind = Rw; key = k; to = b } in
      Contains-event_edges d.event k d.place e (installer_line h k d.next b d.installs) d.occurs
      (subst (λ t. is_committed h.events t ≡ true) (sym d.reader) d.committed) d.selects
      (Contains-append_right (flat_map (λ q. joined Wr k (installer h k q) (Some (txn_of d.event)))
      (filter (reads_from h d.event k d.place) (places h k))) _ e
      (Contains-flat_map (λ q. joined Rw k (Some (txn_of d.event)) (installer h k q))
      (filter (overwritten_by h d.event k d.place) (places h k)) d.next e
      (Contains-filter (overwritten_by h d.event k d.place) (places h k) d.next
      (Contains-places h k d.next b d.installs) d.overwritten)
      (Contains-joined Rw k _ _ a b (ap Some d.reader) d.installs ne)))

  pub edge_from_joins : (kind : Kind) (k : List ℕ) (x y : Option ℕ) (e : Edge) → Joins kind k x y e
      → Depends h kind k e.from e.to → IsEdge h e
  edge_from_joins kind k x y e j d = (
    j.apart,
    subst (λ n. Depends h n e.key e.from e.to) (sym j.kind_is)
        (subst (λ n. Depends h kind n e.from e.to) (sym j.key_is) d),
  )

  pub edge_from_place : (event : Event) (k : List ℕ) (s : Option ℕ) (e : Edge) → Contains h.events event
      → is_committed h.events (txn_of event) ≡ true → selected h event k ≡ s → Contains (place_edges h event k s) e
      → IsEdge h e
  edge_from_place event k None e occurs committed selects c = absurd (none_contained e c)
  edge_from_place event k (Some p) e occurs committed selects c =
      elim (Contains-append_cases (flat_map (λ q. joined Wr k (installer h k q) (Some (txn_of event)))
      (filter (reads_from h event k p) (places h k))) _ e c) [
        | inl d ↦
            let at = flat_map-source (λ q. joined Wr k (installer h k q) (Some (txn_of event)))
            (filter (reads_from h event k p) (places h k)) e d in
            let test = filter-source (reads_from h event k p) (places h k) at.0 at.1 in
            let j = joined-source Wr k _ _ e at.2 in
            let reader = same_Some _ _ j.to_is in
            edge_from_joins Wr k _ _ e j (record {
              event = event;
              place = p;
              source = at.0;
              occurs = occurs;
              reader = reader;
              committed = subst (λ t. is_committed h.events t ≡ true) reader committed;
              selects = selects;
              from_source = test.1;
              installs = j.from_is;
            })
        | inr d ↦
            let at = flat_map-source (λ q. joined Rw k (Some (txn_of event)) (installer h k q))
            (filter (overwritten_by h event k p) (places h k)) e d in
            let test = filter-source (overwritten_by h event k p) (places h k) at.0 at.1 in
            let j = joined-source Rw k _ _ e at.2 in
            let reader = same_Some _ _ j.from_is in
            edge_from_joins Rw k _ _ e j (record {
              event = event;
              place = p;
              next = at.0;
              occurs = occurs;
              reader = reader;
              committed = subst (λ t. is_committed h.events t ≡ true) reader committed;
              selects = selects;
              overwritten = test.1;
              installs = j.to_is;
            })
      ]

  pub edge_when_listed : (e : Edge) → Contains (dependencies h) e → IsEdge h e
  edge_when_listed e c =
      elim (Contains-append_cases (flat_map (λ x. write_edges h x.key) h.orders) _ e c) [
        | inl d ↦
            let o = flat_map-source (λ x. write_edges h x.key) h.orders e d in
            let at = flat_map-source (λ q. joined Ww o.0.key (installer h o.0.key q) (installer h o.0.key (suc q)))
            (places h o.0.key) e o.2 in
            let j = joined-source Ww o.0.key _ _ e at.2 in
            edge_from_joins Ww o.0.key _ _ e j (at.0, j.from_is, j.to_is)
        | inr d ↦
            let event = flat_map-source (event_edges h) (filter (λ x. is_committed h.events (txn_of x)) h.events) e d in
            let test = filter-source (λ x. is_committed h.events (txn_of x)) h.events event.0 event.1 in
            let o = flat_map-source (λ x. place_edges h event.0 x.key (selected h event.0 x.key)) h.orders e event.2 in
            edge_from_place event.0 o.0.key (selected h event.0 o.0.key) e test.0 test.1 refl o.2
      ]
