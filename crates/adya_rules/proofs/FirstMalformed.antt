-- A broken rule is named exactly if it is the first: the list of faults has the broken rules, in order.
use Rattle.std.proofs.Common.{◌≡◌, ℕ, ◌≤◌, not, List, [], ◌++◌, Some, refl, sym, ◌∙◌, ap, subst, arith, inl, inr}
use Rattle.std.specs.List.{Contains}
use Rattle.std.proofs.lemmas.Bool.{both_ways, not-false, not_from_true, false_from_ne_true, true_from_ne_false}
use Rattle.std.proofs.lemmas.List.Elements.{Contains-append_left, Contains-append_right, Contains-append_cases}
use Rattle.adya_values.specs.declared.fault.Rule.{Rule}
use Rattle.adya_values.specs.declared.fault.Rule.TheVariants.{M1, M2, M3, M4, M5, M6, M7, M8}
use Rattle.adya_values.specs.Computing.Faults.{Fault, Malformed, fault_unless, event_faults, unfinished_faults, all_end, lists_exactly, order_faults, has_lines, last_value, is_value, final_faults, has_finals, unfinished_line, orders_line, finals_line, tail_line, malformed, first}
use Rattle.adya_values.specs.Meaning.Histories.{Event, Order, FinalPair, History}
use Rattle.adya_values.specs.Clauses.Rules.{has_ended, installs}
use Rattle.adya_values.proofs.Faults.{first_contained, first_there}
use Rattle.adya_rules.specs.Clauses.FirstFaults.{IsOnLine, BreaksRule, IsFirstMalformed}
use Rattle.adya_rules.proofs.RuleTests.{open_test, numbered_test, written_test, own_test, rising_test, writers_test, value_test}
use Rattle.adya_rules.proofs.FaultOrder.{rank, no_later_from_rank, rank_from_no_later, malformed_in_order, same_from_ranks, malformed_from_rank}
use Rattle.adya_rules.proofs.BrokenRules.{unless_there, unless_from, line_there, line_from, Fails, event_there, event_from, leaves_open_from, all_end_fails, lacks_order_from, has_lines_fails, lacks_final_from, has_finals_fails}

module _ (h : History) where
  pub breaks_event : (line : ℕ) (before : List Event) (e : Event) (r : Rule) → IsOnLine h.events 2 line before e
      → Fails before e r → BreaksRule h line r
  breaks_event line before e M1 s f = (before, e, s, λ p. both_ways _ f ((open_test before e).1 p))
  breaks_event line before e M2 s f = (before, e, s, λ p. both_ways _ f ((numbered_test before e).1 p))
  breaks_event line before e M3 s f = (before, e, s, λ p. both_ways _ f ((written_test before e).1 p))
  breaks_event line before e M4 s f = (before, e, s, λ p. both_ways _ f ((own_test before e).1 p))
  breaks_event line before e M5 s f = (before, e, s, λ p. both_ways _ f ((rising_test e).1 p))
  breaks_event line before e M6 s f = absurd f
  breaks_event line before e M7 s f = absurd f
  breaks_event line before e M8 s f = absurd f

  pub unfinished_breaks : (line : ℕ) (r : Rule)
      → Contains (unfinished_faults h.events (unfinished_line h) h.unfinished) (Malformed line r) → BreaksRule h line r
  unfinished_breaks line r c =
      let u = line_from (λ t. not (has_ended h.events t)) M6 (unfinished_faults h.events) (λ _. refl) (λ _ _ _. refl)
      (unfinished_line h) h.unfinished line r c in
      subst (BreaksRule h line) u.0 (inl (u.1, u.2, u.3, λ f. both_ways _ f (not-false _ u.4)))

  pub order_breaks : (line : ℕ) (r : Rule)
      → Contains (order_faults h.events (orders_line h) h.orders) (Malformed line r) → BreaksRule h line r
  order_breaks line r c =
      let u = line_from (λ (o : Order). lists_exactly (installs h.events o.key) o.writers h.events) M7
      (order_faults h.events) (λ _. refl) (λ _ _ _. refl) (orders_line h) h.orders line r c in
      subst (BreaksRule h line) u.0 (inl (u.1, u.2, u.3, λ l. both_ways _ u.4 ((writers_test h u.2).1 l)))

  pub final_breaks : (line : ℕ) (r : Rule)
      → Contains (final_faults h (finals_line h) h.finals) (Malformed line r) → BreaksRule h line r
  final_breaks line r c =
      let u = line_from (λ (f : FinalPair). is_value (last_value h f.key) f.value) M8 (final_faults h) (λ _. refl)
      (λ _ _ _. refl) (finals_line h) h.finals line r c in
      subst (BreaksRule h line) u.0 (inl (u.1, u.2, u.3, λ e. both_ways _ u.4 ((value_test _ _).1 e)))

  -- the faults from each part of the list on
  abbrev pub from_finals : List Fault
  from_finals = final_faults h (finals_line h) h.finals ++ fault_unless (has_finals h) (tail_line h) M8

  abbrev pub from_missing_order : List Fault
  from_missing_order = fault_unless (has_lines h) (finals_line h) M7 ++ from_finals

  abbrev pub from_orders : List Fault
  from_orders = order_faults h.events (orders_line h) h.orders ++ from_missing_order

  abbrev pub from_ends : List Fault
  from_ends = fault_unless (all_end h) (orders_line h) M6 ++ from_orders

  abbrev pub from_unfinished : List Fault
  from_unfinished = unfinished_faults h.events (unfinished_line h) h.unfinished ++ from_ends

  pub finals_break : (line : ℕ) (r : Rule) → Contains from_finals (Malformed line r) → BreaksRule h line r
  finals_break line r c =
      elim (Contains-append_cases (final_faults h (finals_line h) h.finals) _ (Malformed line r) c) [
        | inl d ↦ final_breaks line r d
        | inr d ↦
            let u = unless_from (has_finals h) (tail_line h) M8 line r d in
            subst (BreaksRule h line) u.2 (inr (sym u.1, lacks_final_from h u.0))
      ]

  pub orders_break : (line : ℕ) (r : Rule) → Contains from_orders (Malformed line r) → BreaksRule h line r
  orders_break line r c =
      elim (Contains-append_cases (order_faults h.events (orders_line h) h.orders) _ (Malformed line r) c) [
        | inl d ↦ order_breaks line r d
        | inr d ↦
            (elim (Contains-append_cases (fault_unless (has_lines h) (finals_line h) M7) _ (Malformed line r) d) [
              | inl e ↦
                  let u = unless_from (has_lines h) (finals_line h) M7 line r e in
                  subst (BreaksRule h line) u.2 (inr (sym u.1, lacks_order_from h u.0))
              | inr e ↦ finals_break line r e
            ])
      ]

  pub ends_break : (line : ℕ) (r : Rule) → Contains from_unfinished (Malformed line r) → BreaksRule h line r
  ends_break line r c =
      let faults = unfinished_faults h.events (unfinished_line h) h.unfinished in
      elim (Contains-append_cases faults _ (Malformed line r) c) [
        | inl d ↦ unfinished_breaks line r d
        | inr d ↦
            (elim (Contains-append_cases (fault_unless (all_end h) (orders_line h) M6) _ (Malformed line r) d) [
              | inl e ↦
                  let u = unless_from (all_end h) (orders_line h) M6 line r e in
                  subst (BreaksRule h line) u.2 (inr (sym u.1, leaves_open_from h u.0))
              | inr e ↦ orders_break line r e
            ])
      ]

  -- each fault of the list is a rule that is broken
  pub broken_from : (line : ℕ) (r : Rule) → Contains (malformed h) (Malformed line r) → BreaksRule h line r
  broken_from line r c =
      elim (Contains-append_cases (event_faults [] 2 h.events) from_unfinished (Malformed line r) c) [
        | inl d ↦ let u = event_from [] 2 h.events line r d in breaks_event line u.0 u.1 r u.2 u.3
        | inr d ↦ ends_break line r d
      ]

  -- which part of the list a fault stands in
  pub in_events : (x : Fault) → Contains (event_faults [] 2 h.events) x → Contains (malformed h) x
  in_events x c = Contains-append_left (event_faults [] 2 h.events) _ x c

  pub in_unfinished : (x : Fault) → Contains (unfinished_faults h.events (unfinished_line h) h.unfinished) x
      → Contains (malformed h) x
  in_unfinished x c =
      Contains-append_right (event_faults [] 2 h.events) _ x
      (Contains-append_left (unfinished_faults h.events (unfinished_line h) h.unfinished) _ x c)

  pub after_unfinished : (x : Fault) → Contains from_ends x → Contains (malformed h) x
  after_unfinished x c =
      Contains-append_right (event_faults [] 2 h.events) _ x
      (Contains-append_right (unfinished_faults h.events (unfinished_line h) h.unfinished) _ x c)

  pub in_ends : (x : Fault) → Contains (fault_unless (all_end h) (orders_line h) M6) x → Contains (malformed h) x
  in_ends x c = after_unfinished x (Contains-append_left (fault_unless (all_end h) (orders_line h) M6) _ x c)

  pub in_orders : (x : Fault) → Contains (order_faults h.events (orders_line h) h.orders) x
      → Contains (malformed h) x
  in_orders x c =
      after_unfinished x (Contains-append_right (fault_unless (all_end h) (orders_line h) M6) _ x
      (Contains-append_left (order_faults h.events (orders_line h) h.orders) _ x c))

  pub after_orders : (x : Fault) → Contains from_missing_order x → Contains (malformed h) x
  after_orders x c =
      after_unfinished x (Contains-append_right (fault_unless (all_end h) (orders_line h) M6) _ x
      (Contains-append_right (order_faults h.events (orders_line h) h.orders) _ x c))

  pub in_lines : (x : Fault) → Contains (fault_unless (has_lines h) (finals_line h) M7) x
      → Contains (malformed h) x
  in_lines x c = after_orders x (Contains-append_left (fault_unless (has_lines h) (finals_line h) M7) _ x c)

  pub in_finals : (x : Fault) → Contains (final_faults h (finals_line h) h.finals) x → Contains (malformed h) x
  in_finals x c =
      after_orders x (Contains-append_right (fault_unless (has_lines h) (finals_line h) M7) _ x
      (Contains-append_left (final_faults h (finals_line h) h.finals) _ x c))

  pub in_tail : (x : Fault) → Contains (fault_unless (has_finals h) (tail_line h) M8) x → Contains (malformed h) x
  in_tail x c =
      after_orders x (Contains-append_right (fault_unless (has_lines h) (finals_line h) M7) _ x
      (Contains-append_right (final_faults h (finals_line h) h.finals) _ x c))

  pub event_broken : (line : ℕ) (before : List Event) (e : Event) (r : Rule) → IsOnLine h.events 2 line before e
      → Fails before e r → Contains (malformed h) (Malformed line r)
  event_broken line before e r s f = in_events (Malformed line r) (event_there [] 2 h.events line before e r s f)

  -- each rule that is broken is a fault of the list
  pub broken_there : (line : ℕ) (r : Rule) → BreaksRule h line r → Contains (malformed h) (Malformed line r)
  broken_there line M1 b =
      event_broken line b.0 b.1 M1 b.2 (false_from_ne_true _ (λ t. b.3 ((open_test b.0 b.1).0 t)))
  broken_there line M2 b =
      event_broken line b.0 b.1 M2 b.2 (false_from_ne_true _ (λ t. b.3 ((numbered_test b.0 b.1).0 t)))
  broken_there line M3 b =
      event_broken line b.0 b.1 M3 b.2 (false_from_ne_true _ (λ t. b.3 ((written_test b.0 b.1).0 t)))
  broken_there line M4 b =
      event_broken line b.0 b.1 M4 b.2 (false_from_ne_true _ (λ t. b.3 ((own_test b.0 b.1).0 t)))
  broken_there line M5 b =
      event_broken line b.0 b.1 M5 b.2 (false_from_ne_true _ (λ t. b.3 ((rising_test b.1).0 t)))
  broken_there line M6 (inl b) =
      in_unfinished (Malformed line M6)
      (line_there (λ t. not (has_ended h.events t)) M6 (unfinished_faults h.events) (λ _. refl) (λ _ _ _. refl)
      (unfinished_line h) h.unfinished line b.0 b.1 b.2 (not_from_true _ (true_from_ne_false _ b.3)))
  broken_there line M6 (inr b) =
      in_ends (Malformed line M6)
      (subst (λ l. Contains (fault_unless (all_end h) (orders_line h) M6) (Malformed l M6)) (sym b.0)
      (unless_there (all_end h) (orders_line h) M6 (all_end_fails h b.1)))
  broken_there line M7 (inl b) =
      in_orders (Malformed line M7)
      (line_there (λ (o : Order). lists_exactly (installs h.events o.key) o.writers h.events) M7
      (order_faults h.events) (λ _. refl) (λ _ _ _. refl) (orders_line h) h.orders line b.0 b.1 b.2
      (false_from_ne_true _ (λ t. b.3 ((writers_test h b.1).0 t))))
  broken_there line M7 (inr b) =
      in_lines (Malformed line M7)
      (subst (λ l. Contains (fault_unless (has_lines h) (finals_line h) M7) (Malformed l M7)) (sym b.0)
      (unless_there (has_lines h) (finals_line h) M7 (has_lines_fails h b.1)))
  broken_there line M8 (inl b) =
      in_finals (Malformed line M8)
      (line_there (λ (f : FinalPair). is_value (last_value h f.key) f.value) M8 (final_faults h) (λ _. refl)
      (λ _ _ _. refl) (finals_line h) h.finals line b.0 b.1 b.2
      (false_from_ne_true _ (λ t. b.3 ((value_test _ _).0 t))))
  broken_there line M8 (inr b) =
      in_tail (Malformed line M8)
      (subst (λ l. Contains (fault_unless (has_finals h) (tail_line h) M8) (Malformed l M8)) (sym b.0)
      (unless_there (has_finals h) (tail_line h) M8 (has_finals_fails h b.1)))

  pub first_malformed_from : (line : ℕ) (rule : Rule) → first (malformed h) ≡ Some (Malformed line rule)
      → IsFirstMalformed h line rule
  first_malformed_from line rule e = record {
    breaks = broken_from line rule (first_contained (malformed h) (Malformed line rule) e);
    least = λ l r b. no_later_from_rank line rule l r
        ((malformed_in_order h).least (Malformed line rule) (Malformed l r) e (broken_there l r b));
  }

  pub malformed_first : (line : ℕ) (rule : Rule) → IsFirstMalformed h line rule
      → first (malformed h) ≡ Some (Malformed line rule)
  malformed_first line rule f =
      let order = malformed_in_order h in
      let there = broken_there line rule f.breaks in
      let x = first_there (malformed h) (Malformed line rule) there in
      let c = first_contained (malformed h) x.0 x.1 in
      let low = order.from_low x.0 c in
      let m = malformed_from_rank x.0 (omega (arith, low)) in
      let breaks = broken_from m.0 m.1 (subst (Contains (malformed h)) m.2 c) in
      let above = subst (λ y. rank y ≤ rank (Malformed line rule)) m.2
      (order.least x.0 (Malformed line rule) x.1 there) in
      x.1 ∙ ap Some (m.2 ∙ same_from_ranks m.0 m.1 line rule above
      (rank_from_no_later line rule m.0 m.1 (f.least m.0 m.1 breaks)))
