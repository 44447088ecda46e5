-- What the parts of a check say, in the words of the whole.
use Rattle.std.proofs.Common.{◌≡◌, ℕ, List, [], ◌++◌, None, sym, ◌∙◌, ap, subst}
use Rattle.adya_values.specs.declared.history.History.{History as HistoryValue}
use Rattle.adya_values.specs.Mirror.Histories.{history_of}
use Rattle.adya_values.specs.Meaning.Histories.{Event, FinalPair, History, Order}
use Rattle.adya_values.specs.Computing.Faults.{Fault, first, first_fault, malformed, check_faults, event_faults, fault_unless, unfinished_faults, all_end, order_faults, has_lines, unfinished_line, orders_line, finals_line}
use Rattle.adya_terms.specs.Clauses.Faults.{IsFault}
use Rattle.adya_terms.specs.Machinery.Checks.{Names, whole, final_value_faults, rule_faults, read_faults}
use Rattle.std.proofs.lemmas.List.{append_assoc}
use Rattle.adya_values.specs.declared.fault.Rule.TheVariants.{M6, M7}
use Rattle.adya_values.specs.declared.fault.CheckFault.{CheckFault}
use Rattle.adya_terms.proofs.Firsts.{names_front, names_behind}
use Rattle.lemmas.proofs.Lists.{both_nil}

module _ (h : History) where
  abbrev behind_events : List Fault
  behind_events = unfinished_faults h.events (unfinished_line h) h.unfinished ++ rule_faults h (orders_line h)

  -- rule by rule they are the faults of the whole
  rules_joined : event_faults [] 2 h.events ++ behind_events ≡ malformed h
  rules_joined =
      let orders = order_faults h.events (orders_line h) h.orders in
      let lines = fault_unless (has_lines h) (finals_line h) M7 in
      ap (λ (fs : List Fault). event_faults [] 2 h.events ++
      (unfinished_faults h.events (unfinished_line h) h.unfinished ++
      (fault_unless (all_end h) (orders_line h) M6 ++ fs)))
      (append_assoc orders lines (final_value_faults h (finals_line h)))

  before_reads : (e : CheckFault) → Names (event_faults [] 2 h.events ++ behind_events) e → Names (check_faults h) e
  before_reads e n = names_front (malformed h) (read_faults h) e (subst (λ fs. Names fs e) rules_joined n)

  pub events_first : (e : CheckFault) → Names (event_faults [] 2 h.events) e → Names (check_faults h) e
  events_first e n = before_reads e (names_front (event_faults [] 2 h.events) behind_events e n)

  module _ (none : event_faults [] 2 h.events ≡ []) where
    pub unfinished_first : (e : CheckFault) → Names (unfinished_faults h.events (unfinished_line h) h.unfinished) e
        → Names (check_faults h) e
    unfinished_first e n =
        before_reads e
        (names_behind (event_faults [] 2 h.events) behind_events e none
        (names_front (unfinished_faults h.events (unfinished_line h) h.unfinished) (rule_faults h (orders_line h)) e n))

    module _ (ended : unfinished_faults h.events (unfinished_line h) h.unfinished ≡ []) where
      pub rules_first : (e : CheckFault) → Names (rule_faults h (orders_line h)) e → Names (check_faults h) e
      rules_first e n =
          before_reads e
          (names_behind (event_faults [] 2 h.events) behind_events e none
          (names_behind (unfinished_faults h.events (unfinished_line h) h.unfinished) (rule_faults h (orders_line h)) e ended n))

      pub none_malformed : rule_faults h (orders_line h) ≡ [] → malformed h ≡ []
      none_malformed rules =
          sym rules_joined ∙
          both_nil (event_faults [] 2 h.events) behind_events none
          (both_nil (unfinished_faults h.events (unfinished_line h) h.unfinished) (rule_faults h (orders_line h)) ended rules)

-- what is found of the lists of a history is found of it
module _ (h : HistoryValue) (es : List Event) (us : List ℕ) (os : List Order) (fs : List FinalPair)
    (e_is : es ≡ (history_of h).events) (u_is : us ≡ h.unfinished.items) (o_is : os ≡ (history_of h).orders) (f_is : fs ≡ (history_of h).finals) where
  whole_is : check_faults (whole es us os fs) ≡ check_faults (history_of h)
  whole_is =
      ap (λ xs. check_faults (whole xs us os fs)) e_is ∙
      (ap (λ xs. check_faults (whole (history_of h).events xs os fs)) u_is ∙
      (ap (λ xs. check_faults (whole (history_of h).events h.unfinished.items xs fs)) o_is ∙
      ap (λ xs. check_faults (whole (history_of h).events h.unfinished.items (history_of h).orders xs)) f_is))

  pub found_whole : (e : CheckFault) → Names (check_faults (whole es us os fs)) e → IsFault (first_fault (history_of h)) e
  found_whole e n = subst (λ xs. Names xs e) whole_is n

  pub faultless_whole : check_faults (whole es us os fs) ≡ [] → first_fault (history_of h) ≡ None
  faultless_whole none = ap first (sym whole_is ∙ none)
