-- The order lines and the final values that a map of lines gives are those that the events make.
use Rattle.std.proofs.Common.{◌≡◌, ℕ, true, false, cond, not, ◌==◌, ◌⊎◌, List, [], ◌∷◌, map, length, Option, Some, None, is_some, option_map, filter, refl, sym, ◌∙◌, ap, subst, inl, inr}
use Rattle.std.specs.List.{filter_map, cons_option, AllByRecursion, Contains}
use Rattle.std.specs.List.Sorted.{IsStrictlySortedBy}
use Rattle.std.specs.Map.{keys_of, values_of}
use Rattle.std.specs.BTreeMap.{is_at}
use Rattle.std.specs.Ordering.{nat_cmp}
use Rattle.std.specs.Cmp.Lexicographic.{slice_cmp}
use Rattle.std.proofs.lemmas.Bool.{cases_Bool}
use Rattle.std.proofs.lemmas.List.{length-map}
use Rattle.std.proofs.lemmas.Map.Entries.{lookup_head, lookup_tail}
use Rattle.lemmas.proofs.Members.{none_contained, Contains-head, Contains-cons, Contains-cases}
use Rattle.lemmas.proofs.Filters.{filter_map-source}
use Rattle.lemmas.proofs.Orderings.{bytes_eq-same, bytes_eq-itself, bytes_eq-other, bytes_lt-apart}
use Rattle.adya_values.specs.declared.event.Entry.{Entry as EntryValue}
use Rattle.adya_keys.specs.Meaning.Keys.{keys_rise}
use Rattle.adya_values.specs.Meaning.Histories.{Entry, Event}
use Rattle.adya_values.specs.Mirror.Events.{entry_of}
use Rattle.adya_values.specs.Meaning.Events.{written, last, last_write, shown}
use Rattle.adya_values.specs.Meaning.Serial.{visible_pair_of}
use Rattle.adya_keys.proofs.Keys.{keys_rise-tail}
use Rattle.adya_values.proofs.Writes.{last_contained, last_write_from}
use Rattle.adya_values.specs.Meaning.Orders.{shown_by}
use Rattle.ssi_recorder.specs.Meaning.Recorded.{writers_by_commit, last_shown, written_keys, order_line, orders_of_events, finals_of_events, by_commit}
use Rattle.ssi_recorder.specs.Machinery.Lines.{Line, line_at, AreLines, line_entries, order_in, final_in, versions_by_commit, versions_under}
use Rattle.ssi_recorder.proofs.Puts.{tied}
use Rattle.ssi_recorder.proofs.Shaped.{keys_rise-from_sorted}
use Rattle.adya_values.proofs.InsertedKeys.{head_below}
use Rattle.ssi_recorder.proofs.WrittenKeys.{keys_with_rise, keys_with_all, made_of_some}

-- ---- the installed versions of a key, their writers and the last of them

abbrev txns : List Entry → List ℕ
txns ws = map (λ w. w.version.txn) ws

last-map : {X Y : Type 0} (f : X → Y) (xs : List X) → last (map f xs) ≡ option_map f (last xs)
last-map f [] = refl
last-map f (x ∷ []) = refl
last-map f (x ∷ y ∷ xs) = last-map f (y ∷ xs)

module _ (k : List ℕ) (events : List Event) where
  abbrev write_of : ℕ → Option Entry
  write_of t = last_write t k events

  written_by : (t : ℕ) (w : Entry) → write_of t ≡ Some w → w.version.txn ≡ t
  written_by t w e = (last_write_from t k events w e).txn_is

  writers_step : (t : ℕ) (ts : List ℕ) (o : Option Entry) → write_of t ≡ o
      → txns (filter_map write_of ts) ≡ filter (λ u. is_some (write_of u)) ts
      → txns (cons_option o (filter_map write_of ts)) ≡ cond (is_some o) (t ∷ filter (λ u. is_some (write_of u)) ts) (filter (λ u. is_some (write_of u)) ts)
  writers_step t ts None e rest = rest
  writers_step t ts (Some w) e rest =
      ap (λ x. x ∷ txns (filter_map write_of ts)) (written_by t w e) ∙ ap (λ us. t ∷ us) rest

  writers_are : (ts : List ℕ) → txns (filter_map write_of ts) ≡ filter (λ t. is_some (write_of t)) ts
  writers_are [] = refl
  writers_are (t ∷ ts) = writers_step t ts (write_of t) refl (writers_are ts)

  pub writers_of_versions : txns (versions_by_commit k events) ≡ writers_by_commit k events
  writers_of_versions = writers_are (by_commit events)

  shown_last : (o : Option Entry) → last (versions_by_commit k events) ≡ o
      → shown o ≡ shown_by k events (option_map (λ w. w.version.txn) o)
  shown_last None e = refl
  shown_last (Some w) e =
      let at = filter_map-source write_of (by_commit events) w (last_contained (versions_by_commit k events) w e) in
      ap shown (sym at.2) ∙ ap (λ t. shown (last_write t k events)) (sym (written_by at.0 w at.2))

  pub last_of_versions : shown (last (versions_by_commit k events)) ≡ last_shown k events
  last_of_versions =
      shown_last (last (versions_by_commit k events)) refl ∙
      ap (shown_by k events) (sym (last-map (λ (w : Entry). w.version.txn) (versions_by_commit k events)) ∙ ap last writers_of_versions)

  -- a key with an installed version was written
  pub installed_written : (w : Entry) → Contains (versions_by_commit k events) w → Contains (written_keys events) k
  installed_written w c =
      let at = filter_map-source write_of (by_commit events) w c in
      let is = last_write_from at.0 k events w at.2 in
      subst (Contains (written_keys events)) is.key_is (keys_with_all [] (filter_map written events) w is.there)

order_line_some : (k ts : List ℕ) → not (length ts == 0) ≡ true
    → order_line k ts ≡ Some (record { key = k; writers = ts })
order_line_some k [] some = absurd (cc (some))
order_line_some k (t ∷ ts) some = refl

-- ---- the lines

module _ (events : List Event) where
  -- the line has the installed versions of its key, and there are some
  pub record IsInstalled (e : List ℕ × Line) : Type 0 where
    pub versions : line_entries e.1 ≡ versions_by_commit e.0 events
    pub some : not (length e.1.entries == 0) ≡ true

  -- so has each line of a map that has them under each of its keys
  all_installed : (es : List (List ℕ × Line)) → AreLines es → keys_rise (keys_of es) ≡ true
      → ((k : List ℕ) → Contains (keys_of es) k → versions_under (line_at k es) ≡ versions_by_commit k events)
      → AllByRecursion IsInstalled es
  all_installed [] lines rise under = _
  all_installed (e ∷ es) lines rise under =
      let here : is_at (slice_cmp nat_cmp e.0) e.0 ≡ true = tied e.0 e.0 ∙ bytes_eq-itself e.0 in (
        record {
          versions = ap versions_under (sym (lookup_head (is_at (slice_cmp nat_cmp e.0)) e es here)) ∙ under e.0 (Contains-head e.0 (keys_of es));
          some = lines.0.0;
        },
        all_installed es lines.1 (keys_rise-tail e.0 (keys_of es) rise)
            (λ k c.
            let less = head_below e.0 (keys_of es) k rise c in
            let other : is_at (slice_cmp nat_cmp k) e.0 ≡ false = tied k e.0 ∙ bytes_eq-other k e.0 (λ s. bytes_lt-apart e.0 k less (sym s)) in
            ap versions_under (sym (lookup_tail (is_at (slice_cmp nat_cmp k)) e es other)) ∙ under k (Contains-cons e.0 (keys_of es) k c)),
      )

  line_length : (m : Line) → length (txns (line_entries m)) ≡ length m.entries
  line_length m =
      length-map (line_entries m) (λ (w : Entry). w.version.txn) ∙ length-map (values_of m.entries) entry_of ∙
      length-map m.entries (λ (x : ℕ × EntryValue). x.1)

  orders_by_key : (es : List (List ℕ × Line)) → AllByRecursion IsInstalled es
      → map order_in es ≡ filter_map (λ k. order_line k (writers_by_commit k events)) (keys_of es)
  orders_by_key [] all = refl
  orders_by_key (e ∷ es) all =
      let writers : txns (line_entries e.1) ≡ writers_by_commit e.0 events =
      ap txns all.0.versions ∙ writers_of_versions e.0 events in
      let line : order_line e.0 (writers_by_commit e.0 events) ≡ Some (order_in e) =
      ap (order_line e.0) (sym writers) ∙
      order_line_some e.0 (txns (line_entries e.1)) (ap (λ n. not (n == 0)) (line_length e.1) ∙ all.0.some) in
      ap (λ os. order_in e ∷ os) (orders_by_key es all.1) ∙
      ap (λ o. cons_option o (filter_map (λ k. order_line k (writers_by_commit k events)) (keys_of es))) (sym line)

  finals_by_key : (es : List (List ℕ × Line)) → AllByRecursion IsInstalled es
      → filter_map final_in es ≡ filter_map (λ k. visible_pair_of k (last_shown k events)) (keys_of es)
  finals_by_key [] all = refl
  finals_by_key (e ∷ es) all =
      let last_is : shown (last (line_entries e.1)) ≡ last_shown e.0 events =
      ap (λ ws. shown (last ws)) all.0.versions ∙ last_of_versions e.0 events in
      ap (cons_option (final_in e)) (finals_by_key es all.1) ∙
      ap (λ v. cons_option (visible_pair_of e.0 v) (filter_map (λ k. visible_pair_of k (last_shown k events)) (keys_of es))) last_is

  -- the keys of the lines were written
  first_in : (m : Line) → not (length m.entries == 0) ≡ true → (w : Entry) × Contains (line_entries m) w
  first_in m some =
      elim (m.entries) as (λ xs. not (length xs == 0) ≡ true → (w : Entry) × Contains (map entry_of (values_of xs)) w) [
        | [] ↦ λ s. absurd (cc (s))
        | x ∷ xs ↦ λ s. (entry_of x.1, Contains-head (entry_of x.1) (map entry_of (values_of xs)))
      ] some

  keys_written : (es : List (List ℕ × Line)) → AllByRecursion IsInstalled es → (k : List ℕ) → Contains (keys_of es) k
      → Contains (written_keys events) k
  keys_written [] all k c = absurd (none_contained k c)
  keys_written (e ∷ es) all k c =
      elim (Contains-cases e.0 (keys_of es) k c) [
        | inl same ↦
            let one = first_in e.1 all.0.some in
            subst (Contains (written_keys events)) same
            (installed_written e.0 events one.0 (subst (λ ws. Contains ws one.0) all.0.versions one.1))
        | inr later ↦ keys_written es all.1 k later
      ]

  -- a key has a line, or none
  key_cases : (es : List (List ℕ × Line)) (k : List ℕ) → Contains (keys_of es) k ⊎ (line_at k es ≡ None)
  key_cases [] k = inr refl
  key_cases (e ∷ es) k =
      elim (cases_Bool (is_at (slice_cmp nat_cmp k) e.0)) [
        | inl t ↦ inl (subst (Contains (e.0 ∷ keys_of es)) (sym (bytes_eq-same k e.0 (sym (tied k e.0) ∙ t))) (Contains-head e.0 (keys_of es)))
        | inr f ↦ elim (key_cases es k) [
          | inl c ↦ inl (Contains-cons e.0 (keys_of es) k c)
          | inr none ↦ inr (lookup_tail (is_at (slice_cmp nat_cmp k)) e es f ∙ none)
        ]
      ]

  module _ (es : List (List ℕ × Line)) (lines : AreLines es) (sorted : IsStrictlySortedBy (slice_cmp nat_cmp) (keys_of es))
      (under : (k : List ℕ) → versions_under (line_at k es) ≡ versions_by_commit k events) where
    rise : keys_rise (keys_of es) ≡ true
    rise = keys_rise-from_sorted (keys_of es) sorted

    all : AllByRecursion IsInstalled es
    all = all_installed es lines rise (λ k c. under k)

    written_rise : keys_rise (written_keys events) ≡ true
    written_rise = keys_with_rise [] (filter_map written events) refl

    no_versions : (k : List ℕ) → line_at k es ≡ None → versions_by_commit k events ≡ []
    no_versions k none = sym (under k) ∙ ap versions_under none

    no_order : (k : List ℕ) → line_at k es ≡ None → order_line k (writers_by_commit k events) ≡ None
    no_order k none = ap (order_line k) (sym (writers_of_versions k events) ∙ ap txns (no_versions k none))

    no_final : (k : List ℕ) → line_at k es ≡ None → visible_pair_of k (last_shown k events) ≡ None
    no_final k none =
        ap (visible_pair_of k) (sym (last_of_versions k events) ∙ ap (λ ws. shown (last ws)) (no_versions k none))

    pub orders_are : map order_in es ≡ orders_of_events events
    orders_are =
        orders_by_key es all ∙
        made_of_some (λ k. order_line k (writers_by_commit k events)) (written_keys events) (keys_of es) written_rise rise (keys_written es all)
        (λ k c. elim (key_cases es k) [ inl there ↦ inl there | inr none ↦ inr (no_order k none) ])

    pub finals_are : filter_map final_in es ≡ finals_of_events events
    finals_are =
        finals_by_key es all ∙
        made_of_some (λ k. visible_pair_of k (last_shown k events)) (written_keys events) (keys_of es) written_rise rise (keys_written es all)
        (λ k c. elim (key_cases es k) [ inl there ↦ inl there | inr none ↦ inr (no_final k none) ])
