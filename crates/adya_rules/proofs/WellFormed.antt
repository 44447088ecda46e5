-- A history that breaks no rule is well-formed, and a well-formed one whose orders and finals rise breaks none.
use Rattle.std.proofs.Common.{◌≡◌, ℕ, suc, ◌↔◌, Bool, true, cond, ◌||◌, append_assoc, List, [], ◌∷◌, ◌++◌, map, Option, Some, None, refl, sym, ◌∙◌, ap, subst, arith, inl, inr}
use Rattle.std.specs.List.{Contains}
use Rattle.std.proofs.lemmas.Bool.{cases_Bool, or_parts, or_from, both_ways, cond-true, false_from_ne_true}
use Rattle.std.proofs.lemmas.Option.{none-some}
use Rattle.std.proofs.lemmas.List.{append-nil}
use Rattle.std.proofs.lemmas.List.Elements.{All-contains}
use Rattle.adya_values.specs.declared.fault.Rule.{Rule}
use Rattle.adya_values.specs.declared.fault.Rule.TheVariants.{M1, M2, M3, M4, M5, M6, M7, M8}
use Rattle.adya_keys.specs.Meaning.Keys.{keys_rise}
use Rattle.adya_values.specs.Meaning.Histories.{Event, Order, FinalPair, History}
use Rattle.adya_values.specs.Meaning.Events.{txn_of, written, is_unfinished}
use Rattle.adya_values.specs.Clauses.Rules.{has_ended}
use Rattle.adya_values.specs.Clauses.Rules.{EachAfter, IsOpen, IsNumbered, WasWritten, SeesOwnWrites, IsRising, AllEnd, installs, OrdersList, FinalsShow, IsWellFormed}
use Rattle.adya_values.specs.Computing.Faults.{is_open, is_next, was_written, sees_own, is_rising, lists_exactly, last_value, is_value, unfinished_line, orders_line, finals_line, tail_line}
use Rattle.lemmas.proofs.Members.{All-from_contained}
use Rattle.lemmas.proofs.Counts.{count}
use Rattle.adya_values.proofs.KeyLookups.{line_cases, line_found, final_cases, final_found}
use Rattle.adya_rules.specs.Clauses.FirstFaults.{IsOnLine, BreaksAtEvent, StaysOpen, ListsWriters, LacksOrder, LacksFinal, BreaksRule}
use Rattle.adya_rules.proofs.Lines.{on_line-head, on_line-cons, on_line-empty, on_line-cases, on_line-contained, contained-on_line}
use Rattle.adya_rules.proofs.RuleTests.{open_test, numbered_test, written_test, own_test, rising_test, writers_test, value_test}

-- what holds of each event and those before it
pub each_when : (P : List Event → Event → Type 0) (front : List Event) (start : ℕ) (es : List Event)
    → ((line : ℕ) (before : List Event) (e : Event) → IsOnLine es start line before e → P (front ++ before) e)
    → EachAfter P front es
each_when P front start [] h = tt
each_when P front start (e ∷ es) h = (
  subst (λ b. P b e) (append-nil front) (h start [] e (on_line-head e es start)),
  each_when P (front ++ e ∷ []) (suc start) es (λ line before x s.
      subst (λ b. P b x) (sym (append_assoc front (e ∷ []) before))
      (h line (e ∷ before) x (on_line-cons e es start line before x s))),
)

pub each_at : (P : List Event → Event → Type 0) (front : List Event) (start : ℕ) (es : List Event)
    → EachAfter P front es → (line : ℕ) (before : List Event) (e : Event) → IsOnLine es start line before e
    → P (front ++ before) e
each_at P front start [] h line before e s = absurd (on_line-empty start line before e s)
each_at P front start (x ∷ es) h line before e s =
    elim (on_line-cases x es start line before e s) [
      | inl at ↦
          subst (λ b. P b e) (sym (ap (λ b. front ++ b) at.0 ∙ append-nil front)) (subst (λ y. P front y) at.1 h.0)
      | inr at ↦
          subst (λ b. P b e) (append_assoc front (x ∷ []) at.0 ∙ sym (ap (λ b. front ++ b) at.1))
          (each_at P (front ++ x ∷ []) (suc start) es h.1 line at.0 e at.2)
    ]

module _ (h : History) (unbroken : (line : ℕ) (rule : Rule) → BreaksRule h line rule → ⊥) where
  -- the rule of events that has a test holds of each event
  pub each_holds : (P : List Event → Event → Type 0) (test : List Event → Event → Bool)
      → ((before : List Event) (e : Event) → (test before e ≡ true) ↔ P before e)
      → ((line : ℕ) → BreaksAtEvent P h line → ⊥) → EachAfter P [] h.events
  each_holds P test decides none =
      each_when P [] 2 h.events (λ line before e s. elim (cases_Bool (test before e)) [
        | inl t ↦ (decides before e).0 t
        | inr f ↦ absurd (none line (before, e, s, λ p. both_ways _ f ((decides before e).1 p)))
      ])

  pub stays_open : (t : ℕ) → Contains h.unfinished t → StaysOpen h t
  stays_open t c =
      let s = contained-on_line h.unfinished (unfinished_line h) t c in
      elim (cases_Bool (has_ended h.events t)) [
        | inl x ↦ absurd (unbroken s.0 M6 (inl (s.1, t, s.2, λ f. both_ways _ f x)))
        | inr f ↦ f
      ]

  pub ends_hold : AllEnd h
  ends_hold = record {
    ended = All-from_contained (λ e. (has_ended h.events (txn_of e) || is_unfinished h (txn_of e)) ≡ true) h.events
        (λ e c. elim (cases_Bool (has_ended h.events (txn_of e) || is_unfinished h (txn_of e))) [
          | inl t ↦ t
          | inr f ↦
              let p = or_parts _ _ f in
              absurd (unbroken (orders_line h) M6 (inr (refl, (e, c, p.0, p.1))))
        ]);
    unended = All-from_contained (StaysOpen h) h.unfinished stays_open;
  }

  pub order_holds : (o : Order) → Contains h.orders o → ListsWriters h o
  order_holds o c =
      let s = contained-on_line h.orders (orders_line h) o c in
      elim (cases_Bool (lists_exactly (installs h.events o.key) o.writers h.events)) [
        | inl t ↦ (writers_test h o).0 t
        | inr f ↦ absurd (unbroken s.0 M7 (inl (s.1, o, s.2, λ l. both_ways _ f ((writers_test h o).1 l))))
      ]

  pub orders_hold : OrdersList h
  orders_hold k t =
      elim (line_cases h.orders k) [
        | inl o ↦
            ap (λ xs. count xs t) o.3 ∙
            (order_holds o.0 o.1 t ∙ ap (λ j. cond (installs h.events j t) 1 0) o.2)
        | inr none ↦
            ap (λ xs. count xs t) none.0 ∙
            ap (λ b. cond b 1 0)
            (sym (false_from_ne_true (installs h.events k t)
            (λ i. unbroken (finals_line h) M7 (inr (refl, (k, t, i, none.1))))))
      ]

  pub final_holds : (f : FinalPair) → Contains h.finals f → last_value h f.key ≡ Some f.value
  final_holds f c =
      let s = contained-on_line h.finals (finals_line h) f c in
      elim (cases_Bool (is_value (last_value h f.key) f.value)) [
        | inl t ↦ (value_test _ _).0 t
        | inr n ↦ absurd (unbroken s.0 M8 (inl (s.1, f, s.2, λ e. both_ways _ n ((value_test _ _).1 e))))
      ]

  pub nothing_lacks : (k : List ℕ) → ((f : FinalPair) → Contains h.finals f → f.key ≡ k → ⊥) → (o : Option (List ℕ))
      → last_value h k ≡ o → o ≡ None
  nothing_lacks k none None e = refl
  nothing_lacks k none (Some v) e = absurd (unbroken (tail_line h) M8 (inr (refl, (k, v, e, none))))

  pub finals_hold : FinalsShow h
  finals_hold k =
      elim (final_cases h.finals k) [
        | inl f ↦ f.3 ∙ (sym (final_holds f.0 f.1) ∙ ap (last_value h) f.2)
        | inr none ↦ none.0 ∙ sym (nothing_lacks k none.1 (last_value h k) refl)
      ]

  pub well_formed_when_unbroken : IsWellFormed h
  well_formed_when_unbroken = record {
    open_until_end = each_holds IsOpen is_open open_test (λ line. unbroken line M1);
    numbered = each_holds IsNumbered (λ b e. is_next b (written e)) numbered_test (λ line. unbroken line M2);
    was_written = each_holds WasWritten was_written written_test (λ line. unbroken line M3);
    own_writes = each_holds SeesOwnWrites sees_own own_test (λ line. unbroken line M4);
    rising = each_holds (λ b e. IsRising e) (λ b e. is_rising e) (λ b e. rising_test e) (λ line. unbroken line M5);
    ends = ends_hold;
    orders = orders_hold;
    finals = finals_hold;
  }

module _ (h : History) (w : IsWellFormed h) (orders_rise : keys_rise (map (λ o. o.key) h.orders) ≡ true)
    (finals_rise : keys_rise (map (λ f. f.key) h.finals) ≡ true) where
  pub no_order_lacks : LacksOrder h → ⊥
  no_order_lacks l =
      elim (line_cases h.orders l.0) [
        | inl o ↦ l.3 o.0 o.1 o.2
        | inr none ↦
            let counted = w.orders l.0 l.1 in
            let one = cond-true {A = ℕ} (installs h.events l.0 l.1) 1 0 l.2 in
            let nowhere = ap (λ xs. count xs l.1) none.0 in
            omega (arith, counted, one, nowhere)
      ]

  pub no_final_lacks : LacksFinal h → ⊥
  no_final_lacks l =
      elim (final_cases h.finals l.0) [
        | inl f ↦ l.3 f.0 f.1 f.2
        | inr none ↦ none-some l.1 (sym none.0 ∙ (w.finals l.0 ∙ l.2))
      ]

  pub unbroken_when_well_formed : (line : ℕ) (rule : Rule) → BreaksRule h line rule → ⊥
  unbroken_when_well_formed line M1 b = b.3 (each_at IsOpen [] 2 h.events w.open_until_end line b.0 b.1 b.2)
  unbroken_when_well_formed line M2 b = b.3 (each_at IsNumbered [] 2 h.events w.numbered line b.0 b.1 b.2)
  unbroken_when_well_formed line M3 b = b.3 (each_at WasWritten [] 2 h.events w.was_written line b.0 b.1 b.2)
  unbroken_when_well_formed line M4 b = b.3 (each_at SeesOwnWrites [] 2 h.events w.own_writes line b.0 b.1 b.2)
  unbroken_when_well_formed line M5 b = b.3 (each_at (λ x e. IsRising e) [] 2 h.events w.rising line b.0 b.1 b.2)
  unbroken_when_well_formed line M6 (inl b) =
      b.3 (All-contains (StaysOpen h) h.unfinished b.1 w.ends.unended
      (on_line-contained h.unfinished (unfinished_line h) line b.0 b.1 b.2))
  unbroken_when_well_formed line M6 (inr b) =
      both_ways _ (or_from _ _ b.1.2 b.1.3)
      (All-contains (λ e. (has_ended h.events (txn_of e) || is_unfinished h (txn_of e)) ≡ true) h.events b.1.0
      w.ends.ended b.1.1)
  unbroken_when_well_formed line M7 (inl b) =
      let c = on_line-contained h.orders (orders_line h) line b.0 b.1 b.2 in
      b.3 (λ t. ap (λ xs. count xs t) (sym (line_found h.orders b.1 orders_rise c)) ∙ w.orders b.1.key t)
  unbroken_when_well_formed line M7 (inr b) = no_order_lacks b.1
  unbroken_when_well_formed line M8 (inl b) =
      let c = on_line-contained h.finals (finals_line h) line b.0 b.1 b.2 in
      b.3 (sym (w.finals b.1.key) ∙ final_found h.finals b.1 finals_rise c)
  unbroken_when_well_formed line M8 (inr b) = no_final_lacks b.1
