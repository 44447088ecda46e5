-- The edges of a scan and the first overwriter, by the places where the matches change.
use Rattle.std.proofs.Common.{◌≡◌, ℕ, zero, suc, ◌+◌, ◌==◌, ◌<◌, ◌≤◌, Bool, true, false, cond, not, ◌&&◌, ◌||◌, nat_lt, List, [], ◌++◌, length, Option, Some, None, filter, find, flat_map, refl, sym, ◌∙◌, ap, arith, inl, inr}
use Rattle.std.proofs.lemmas.Bool.{cases_lt, eq-eqb, ne_eqb, lt-ltb, le-ltb}
use Rattle.std.proofs.lemmas.Option.{slice_get_past}
use Rattle.adya_values.specs.Meaning.Histories.{Event, History}
use Rattle.adya_values.specs.Meaning.Events.{txn_of}
use Rattle.adya_values.specs.Meaning.Orders.{writers, installer, is_visible_at}
use Rattle.adya_values.specs.Meaning.Selections.{is_scan, changes_matches, reads_from, overwritten_by}
use Rattle.adya_values.specs.Meaning.Edges.{Wr, Rw, Edge}
use Rattle.adya_values.specs.Computing.EdgeList.{places, joined, read_edges, overwrite_edges}
use Rattle.adya_dsg.specs.Machinery.Choices.{choice}
use Rattle.adya_dsg.specs.Machinery.Links.{changed_places, installer_at, overwriter, choice_links}
use Rattle.adya_dsg.specs.Machinery.PartEdges.{choice_edges}
use Rattle.std.proofs.Math.Bool.{or-true, or-false, and-true}
use Rattle.std.proofs.lemmas.List.Elements.{filter_agree}
use Rattle.lemmas.proofs.Filters.{filter_both}
use Rattle.lemmas.proofs.Finds.{find_agree, find_both}
use Rattle.adya_dsg.proofs.Ranges.{find_at_place, find_nowhere, none_pass, one_place, sources_from, overwriters_from}

no_installer : (h : History) (k : List ℕ) (p : ℕ) → 1 + length (writers h k) ≤ p → installer h k p ≡ None
no_installer h k zero l = refl
no_installer h k (suc p) l = slice_get_past (writers h k) p (omega (arith, l))

joined_to_none : (k : List ℕ) (t : ℕ) (o : Option ℕ) → o ≡ None → joined Rw k (Some t) o ≡ []
joined_to_none k t None e = refl
joined_to_none k t (Some x) e = absurd (cc (e))

module _ (h : History) (e : Event) (k : List ℕ) (p : ℕ) where
  abbrev t : ℕ
  t = txn_of e

  abbrev wr_at : ℕ → List Edge
  wr_at q = joined Wr k (installer h k q) (Some t)

  abbrev rw_at : ℕ → List Edge
  rw_at q = joined Rw k (Some t) (installer h k q)

  module _ (scan : is_scan e ≡ true) where
    reads_is : (q : ℕ) → reads_from h e k p q ≡ ((q == p) || (nat_lt q p && changes_matches h k q))
    reads_is q = ap (λ b. (q == p) || (b && (nat_lt q p && changes_matches h k q))) scan

    sources : (i : ℕ) → p ≡ i
        → flat_map wr_at (filter (λ q. (q == i) || (nat_lt q i && changes_matches h k q)) (places h k))
        ≡ flat_map wr_at (filter (λ q. nat_lt q i) (changed_places h k)) ++ wr_at i
    sources zero is =
        ap (flat_map wr_at)
        (none_pass (λ q. (q == 0) || (nat_lt q 0 && changes_matches h k q)) 1 (length (writers h k))
        (λ q l. ap (λ b. b || (nat_lt q 0 && changes_matches h k q)) (ne_eqb q 0 (λ s. omega (arith, l, s))) ∙
        ap (λ b. b && changes_matches h k q) (le-ltb q 0 (omega arith)))) ∙
        sym
        (ap (λ zs. flat_map wr_at zs ++ [])
        (sym (filter_both (λ q. nat_lt q 0) (changes_matches h k) (places h k)) ∙
        none_pass (λ q. nat_lt q 0 && changes_matches h k q) 1 (length (writers h k))
        (λ q l. ap (λ b. b && changes_matches h k q) (le-ltb q 0 (omega arith)))))
    sources (suc i) is =
        sources_from wr_at (changes_matches h k) (suc i) 1 (length (writers h k)) (omega arith)
        (λ m. ap (λ o. joined Wr k o (Some t)) (no_installer h k (suc i) m))

    pub read_edges_are : read_edges h e k p
        ≡ flat_map wr_at (filter (λ q. nat_lt q p) (changed_places h k)) ++ wr_at p
    read_edges_are =
        ap (flat_map wr_at)
        (filter_agree (reads_from h e k p) (λ q. (q == p) || (nat_lt q p && changes_matches h k q)) reads_is (places h k)) ∙
        sources p refl

    overwrites_is : (v : Bool) → is_visible_at h k p ≡ v → (q : ℕ)
        → overwritten_by h e k p q ≡ (nat_lt p q && (changes_matches h k q || ((q == suc p) && v)))
    overwrites_is v is q =
        ap (λ b. cond b (nat_lt p q && (changes_matches h k q || ((q == suc p) && is_visible_at h k p))) (q == suc p)) scan ∙
        ap (λ b. nat_lt p q && (changes_matches h k q || ((q == suc p) && b))) is

    or_and_false : (b c : Bool) → (b || (c && false)) ≡ b
    or_and_false true c = refl
    or_and_false false true = refl
    or_and_false false false = refl

    visible_is : is_visible_at h k p ≡ true → (q : ℕ)
        → overwritten_by h e k p q ≡ (nat_lt p q && (changes_matches h k q || (q == suc p)))
    visible_is v q = overwrites_is true v q ∙ ap (λ b. nat_lt p q && (changes_matches h k q || b)) (and-true (q == suc p))

    hidden_is : is_visible_at h k p ≡ false → (q : ℕ)
        → overwritten_by h e k p q ≡ (nat_lt p q && changes_matches h k q)
    hidden_is v q = overwrites_is false v q ∙ ap (λ b. nat_lt p q && b) (or_and_false (changes_matches h k q) (q == suc p))

    pub overwrite_edges_visible : is_visible_at h k p ≡ true
        → overwrite_edges h e k p
        ≡ rw_at (suc p) ++ flat_map rw_at (filter (λ q. nat_lt (suc p) q) (changed_places h k))
    overwrite_edges_visible v =
        ap (flat_map rw_at)
        (filter_agree (overwritten_by h e k p) (λ q. nat_lt p q && (changes_matches h k q || (q == suc p)))
        (visible_is v) (places h k)) ∙
        overwriters_from rw_at (changes_matches h k) p 1 (length (writers h k)) (omega arith)
        (λ m. joined_to_none k t _ (no_installer h k (suc p) m))

    pub overwrite_edges_hidden : is_visible_at h k p ≡ false
        → overwrite_edges h e k p ≡ flat_map rw_at (filter (λ q. nat_lt p q) (changed_places h k))
    overwrite_edges_hidden v =
        ap (flat_map rw_at)
        (filter_agree (overwritten_by h e k p) (λ q. nat_lt p q && changes_matches h k q) (hidden_is v) (places h k) ∙
        filter_both (λ q. nat_lt p q) (changes_matches h k) (places h k))

    -- if a scan selects what isn't visible, the first overwriter installed the next change
    pub overwriter_hidden : is_visible_at h k p ≡ false
        → overwriter h e k p ≡ installer_at h k (find (λ q. nat_lt p q) (changed_places h k))
    overwriter_hidden v =
        ap (installer_at h k)
        (find_agree (overwritten_by h e k p) (λ q. nat_lt p q && changes_matches h k q) (places h k) (hidden_is v) ∙
        find_both (λ q. nat_lt p q) (changes_matches h k) (places h k))

  next_by : ((q : ℕ) → q < suc p → overwritten_by h e k p q ≡ false) → overwritten_by h e k p (suc p) ≡ true
      → overwriter h e k p ≡ installer h k (suc p)
  next_by before here =
      elim (cases_lt p (length (writers h k))) [
        | inl l ↦ ap (installer_at h k)
            (find_at_place (overwritten_by h e k p) (suc p) 1 (length (writers h k)) (omega arith) (omega (arith, l)) before here)
        | inr l ↦
            ap (installer_at h k)
            (find_nowhere (overwritten_by h e k p) 1 (length (writers h k)) (λ q m. before q (omega (arith, l, m)))) ∙
            sym (no_installer h k (suc p) (omega (arith, l)))
      ]

  item : is_scan e ≡ false → (q : ℕ) → overwritten_by h e k p q ≡ (q == suc p)
  item s q =
      ap (λ b. cond b (nat_lt p q && (changes_matches h k q || ((q == suc p) && is_visible_at h k p))) (q == suc p)) s

  -- else the next one
  pub overwriter_next : (is_scan e && not (is_visible_at h k p)) ≡ false → overwriter h e k p ≡ installer h k (suc p)
  overwriter_next b = by_kind (is_scan e) refl (is_visible_at h k p) refl b
    where
      by_kind : (s : Bool) → is_scan e ≡ s → (v : Bool) → is_visible_at h k p ≡ v → (s && not v) ≡ false
          → overwriter h e k p ≡ installer h k (suc p)
      by_kind true s false v b = absurd (cc (b))
      by_kind true s true v b =
          next_by
          (λ q l. visible_is s v q ∙ ap (λ z. z && (changes_matches h k q || (q == suc p))) (le-ltb p q (omega (arith, l))))
          (visible_is s v (suc p) ∙
          (ap (λ z. z && (changes_matches h k (suc p) || (suc p == suc p))) (lt-ltb p (suc p) (omega arith)) ∙
          (ap (λ z. changes_matches h k (suc p) || z) (eq-eqb (suc p) (suc p) refl) ∙ or-true (changes_matches h k (suc p)))))
      by_kind false s v is b =
          next_by (λ q l. item s q ∙ ne_eqb q (suc p) (λ same. omega (arith, l, same)))
          (item s (suc p) ∙ eq-eqb (suc p) (suc p) refl)

  -- of an event that is no scan the edges are the links
  item_reads : is_scan e ≡ false → (q : ℕ) → reads_from h e k p q ≡ (q == p)
  item_reads s q =
      ap (λ b. (q == p) || (b && (nat_lt q p && changes_matches h k q))) s ∙ or-false (q == p)

  source : (i : ℕ) → p ≡ i → is_scan e ≡ false → flat_map wr_at (filter (reads_from h e k p) (places h k)) ≡ wr_at i
  source zero is s =
      ap (flat_map wr_at)
      (none_pass (reads_from h e k p) 1 (length (writers h k))
      (λ q l. item_reads s q ∙ ne_eqb q p (λ same. omega (arith, l, is, same))))
  source (suc i) is s =
      one_place wr_at (reads_from h e k p) (suc i) 1 (length (writers h k))
      (λ q. item_reads s q ∙ ap (λ j. q == j) is) (omega arith)
      (λ m. ap (λ o. joined Wr k o (Some t)) (no_installer h k (suc i) m))

  pub item_edges_are : is_scan e ≡ false
      → choice_edges h e (choice k p) ≡ choice_links h e (choice k p)
  item_edges_are s =
      let next = one_place rw_at (overwritten_by h e k p) (suc p) 1 (length (writers h k)) (item s) (omega arith)
      (λ m. joined_to_none k t _ (no_installer h k (suc p) m)) in
      let to = overwriter_next (ap (λ b. b && not (is_visible_at h k p)) s) in
      ap (λ es. es ++ overwrite_edges h e k p) (source p refl s) ∙
      (ap (λ es. wr_at p ++ es) next ∙ ap (λ o. wr_at p ++ joined Rw k (Some t) o) (sym to))
