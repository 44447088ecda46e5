-- The lists of faults have exactly the rules that are broken, each at its line.
use Rattle.std.proofs.Common.{◌≡◌, ℕ, zero, suc, Bool, true, false, not, ◌||◌, append_assoc, List, [], ◌∷◌, ◌++◌, length, Option, Some, None, is_some, is_none, refl, sym, ◌∙◌, ap, subst, arith, inl, inr}
use Rattle.std.specs.List.{filter_map, list_any, Contains}
use Rattle.std.proofs.lemmas.Bool.{and_from, and_parts, both_ways, not-false, not_from_true, or_parts, or_from, false_from_ne_true}
use Rattle.std.proofs.lemmas.Option.{none-some}
use Rattle.std.proofs.lemmas.List.{append-nil}
use Rattle.std.proofs.lemmas.List.Elements.{Contains-append_left, Contains-append_right, Contains-append_cases}
use Rattle.adya_values.specs.declared.fault.Rule.{Rule}
use Rattle.adya_values.specs.declared.fault.Rule.TheVariants.{M1, M2, M3, M4, M5, M6, M7, M8}
use Rattle.adya_values.specs.Computing.Faults.{Fault, Malformed, is_open, is_next, was_written, sees_own, is_rising, fault_unless, faults_at, event_faults, all_end, has_lines, last_value, has_finals}
use Rattle.adya_keys.specs.Meaning.Keys.{key_eq}
use Rattle.adya_values.specs.Meaning.Histories.{Event, History}
use Rattle.adya_values.specs.Meaning.Events.{txn_of, written, is_committed, is_unfinished}
use Rattle.adya_values.specs.Clauses.Rules.{has_ended, final_value}
use Rattle.adya_values.specs.Meaning.Orders.{shown_by, writers, installer}
use Rattle.lemmas.proofs.Members.{none_contained, Contains-head}
use Rattle.lemmas.proofs.Tests.{list_any-source, list_any_when, list_all-failed, list_all_fails_at}
use Rattle.lemmas.proofs.Orderings.{bytes_eq-same, bytes_eq-from}
use Rattle.adya_values.proofs.KeyLookups.{final_any}
use Rattle.adya_values.proofs.Writes.{has_last_write, installs_write}
use Rattle.adya_values.proofs.Places.{installer_line}
use Rattle.adya_values.proofs.Faults.{HasFaultPerLine}
use Rattle.adya_rules.specs.Clauses.FirstFaults.{IsOnLine, LeavesOpen, LacksOrder, LacksFinal}
use Rattle.adya_rules.proofs.Lines.{on_line-head, on_line-cons, on_line-empty, on_line-cases}

pub same_line : (a : ℕ) (r : Rule) (b : ℕ) (s : Rule) → Malformed a r ≡ Malformed b s → a ≡ b
same_line a r b s e = cc (e)

pub same_rule : (a : ℕ) (r : Rule) (b : ℕ) (s : Rule) → Malformed a r ≡ Malformed b s → r ≡ s
same_rule a r b s e = cc (e)

-- the one fault of a test that fails
pub unless_there : (b : Bool) (line : ℕ) (rule : Rule) → b ≡ false
    → Contains (fault_unless b line rule) (Malformed line rule)
unless_there true line rule e = absurd (both_ways true e refl)
unless_there false line rule e = Contains-head (Malformed line rule) []

pub unless_from : (b : Bool) (line : ℕ) (rule : Rule) (l : ℕ) (r : Rule)
    → Contains (fault_unless b line rule) (Malformed l r) → (b ≡ false) × (line ≡ l) × (rule ≡ r)
unless_from true line rule l r c = absurd (none_contained (Malformed l r) c)
unless_from false line rule l r (zero, lt, e) = (refl, same_line line rule l r e, same_rule line rule l r e)
unless_from false line rule l r (suc i, lt, e) = absurd (omega (arith, lt))

-- of a list with a fault for each line whose test fails: which faults it holds
module _ {X : Type 0} (test : X → Bool) (rule : Rule) (faults : ℕ → List X → List Fault)
    (none : (line : ℕ) → faults line [] ≡ [])
    (step : HasFaultPerLine test rule faults) where
  pub line_there : (start : ℕ) (xs : List X) (line : ℕ) (before : List X) (x : X) → IsOnLine xs start line before x
      → test x ≡ false → Contains (faults start xs) (Malformed line rule)
  line_there start [] line before x s fails = absurd (on_line-empty start line before x s)
  line_there start (y ∷ xs) line before x s fails =
      subst (λ fs. Contains fs (Malformed line rule)) (sym (step start y xs))
      (elim (on_line-cases y xs start line before x s) [
        | inl e ↦
            Contains-append_left (fault_unless (test y) start rule) (faults (suc start) xs) (Malformed line rule)
            (subst (λ l. Contains (fault_unless (test y) start rule) (Malformed l rule)) (sym e.2)
            (unless_there (test y) start rule (ap test e.1 ∙ fails)))
        | inr r ↦
            Contains-append_right (fault_unless (test y) start rule) (faults (suc start) xs) (Malformed line rule)
            (line_there (suc start) xs line r.0 x r.2 fails)
      ])

  pub line_from : (start : ℕ) (xs : List X) (line : ℕ) (r : Rule) → Contains (faults start xs) (Malformed line r)
      → (rule ≡ r) × (before : List X) × (x : X) × IsOnLine xs start line before x × (test x ≡ false)
  line_from start [] line r c =
      absurd (none_contained (Malformed line r) (subst (λ fs. Contains fs (Malformed line r)) (none start) c))
  line_from start (y ∷ xs) line r c =
      elim (Contains-append_cases (fault_unless (test y) start rule) (faults (suc start) xs) (Malformed line r)
      (subst (λ fs. Contains fs (Malformed line r)) (step start y xs) c)) [
        | inl d ↦
            let u = unless_from (test y) start rule line r d in
            (u.2, [], y, subst (λ l. IsOnLine (y ∷ xs) start l [] y) u.1 (on_line-head y xs start), u.0)
        | inr d ↦
            let u = line_from (suc start) xs line r d in
            (u.0, y ∷ u.1, u.2, on_line-cons y xs start line u.1 u.2 u.3, u.4)
      ]

-- the event fails the test of the rule, given those before it
abbrev pub Fails : List Event → Event → Rule → Type 0
Fails before e M1 = is_open before e ≡ false
Fails before e M2 = is_next before (written e) ≡ false
Fails before e M3 = was_written before e ≡ false
Fails before e M4 = sees_own before e ≡ false
Fails before e M5 = is_rising e ≡ false
Fails before e M6 = ⊥
Fails before e M7 = ⊥
Fails before e M8 = ⊥

module _ (before : List Event) (line : ℕ) (e : Event) where
  pub fault_there : (r : Rule) → Fails before e r → Contains (faults_at before line e) (Malformed line r)
  fault_there M1 f = Contains-append_left _ _ (Malformed line M1) (unless_there _ line M1 f)
  fault_there M2 f =
      let f1 = fault_unless (is_open before e) line M1 in
      Contains-append_right f1 _ (Malformed line M2)
      (Contains-append_left _ _ (Malformed line M2) (unless_there _ line M2 f))
  fault_there M3 f =
      let f1 = fault_unless (is_open before e) line M1 in
      let f2 = fault_unless (is_next before (written e)) line M2 in
      Contains-append_right f1 _ (Malformed line M3)
      (Contains-append_right f2 _ (Malformed line M3)
      (Contains-append_left _ _ (Malformed line M3) (unless_there _ line M3 f)))
  fault_there M4 f =
      let f1 = fault_unless (is_open before e) line M1 in
      let f2 = fault_unless (is_next before (written e)) line M2 in
      let f3 = fault_unless (was_written before e) line M3 in
      Contains-append_right f1 _ (Malformed line M4)
      (Contains-append_right f2 _ (Malformed line M4)
      (Contains-append_right f3 _ (Malformed line M4)
      (Contains-append_left _ _ (Malformed line M4) (unless_there _ line M4 f))))
  fault_there M5 f =
      let f1 = fault_unless (is_open before e) line M1 in
      let f2 = fault_unless (is_next before (written e)) line M2 in
      let f3 = fault_unless (was_written before e) line M3 in
      let f4 = fault_unless (sees_own before e) line M4 in
      Contains-append_right f1 _ (Malformed line M5)
      (Contains-append_right f2 _ (Malformed line M5)
      (Contains-append_right f3 _ (Malformed line M5)
      (Contains-append_right f4 _ (Malformed line M5) (unless_there _ line M5 f))))
  fault_there M6 f = absurd f
  fault_there M7 f = absurd f
  fault_there M8 f = absurd f

  -- what a test's one fault says of the event
  pub fails_from : (b : Bool) (rule : Rule) → (b ≡ false → Fails before e rule) → (l : ℕ) (r : Rule)
      → Contains (fault_unless b line rule) (Malformed l r) → (line ≡ l) × Fails before e r
  fails_from b rule h l r c =
      let u = unless_from b line rule l r c in (u.1, subst (Fails before e) u.2 (h u.0))

  pub fault_from : (l : ℕ) (r : Rule) → Contains (faults_at before line e) (Malformed l r)
      → (line ≡ l) × Fails before e r
  fault_from l r c =
      let f1 = fault_unless (is_open before e) line M1 in
      let f2 = fault_unless (is_next before (written e)) line M2 in
      let f3 = fault_unless (was_written before e) line M3 in
      let f4 = fault_unless (sees_own before e) line M4 in
      let f5 = fault_unless (is_rising e) line M5 in
      let x = Malformed l r in
      elim (Contains-append_cases f1 (f2 ++ (f3 ++ (f4 ++ f5))) x c) [
        | inl d ↦ fails_from _ M1 (λ f. f) l r d
        | inr c2 ↦ elim (Contains-append_cases f2 (f3 ++ (f4 ++ f5)) x c2) [
          | inl d ↦ fails_from _ M2 (λ f. f) l r d
          | inr c3 ↦ elim (Contains-append_cases f3 (f4 ++ f5) x c3) [
            | inl d ↦ fails_from _ M3 (λ f. f) l r d
            | inr c4 ↦ elim (Contains-append_cases f4 f5 x c4) [
              | inl d ↦ fails_from _ M4 (λ f. f) l r d
              | inr d ↦ fails_from _ M5 (λ f. f) l r d
            ]
          ]
        ]
      ]

pub event_there : (front : List Event) (start : ℕ) (es : List Event) (line : ℕ) (before : List Event) (e : Event)
    → (r : Rule) → IsOnLine es start line before e → Fails (front ++ before) e r
    → Contains (event_faults front start es) (Malformed line r)
event_there front start [] line before e r s f = absurd (on_line-empty start line before e s)
event_there front start (x ∷ es) line before e r s f =
    let now = faults_at front start x in
    let later = event_faults (front ++ x ∷ []) (suc start) es in
    elim (on_line-cases x es start line before e s) [
      | inl at ↦
          let g : Fails front x r = subst (λ y. Fails front y r) (sym at.1)
          (subst (λ b. Fails b e r) (ap (λ b. front ++ b) at.0 ∙ append-nil front) f) in
          Contains-append_left now later (Malformed line r)
          (subst (λ l. Contains now (Malformed l r)) (sym at.2) (fault_there front start x r g))
      | inr at ↦
          let g : Fails ((front ++ x ∷ []) ++ at.0) e r =
          subst (λ b. Fails b e r) (ap (λ b. front ++ b) at.1 ∙ sym (append_assoc front (x ∷ []) at.0)) f in
          Contains-append_right now later (Malformed line r)
          (event_there (front ++ x ∷ []) (suc start) es line at.0 e r at.2 g)
    ]

pub event_from : (front : List Event) (start : ℕ) (es : List Event) (line : ℕ) (r : Rule)
    → Contains (event_faults front start es) (Malformed line r)
    → (before : List Event) × (e : Event) × IsOnLine es start line before e × Fails (front ++ before) e r
event_from front start [] line r c = absurd (none_contained (Malformed line r) c)
event_from front start (x ∷ es) line r c =
    elim (Contains-append_cases (faults_at front start x) _ (Malformed line r) c) [
      | inl d ↦
          let u = fault_from front start x line r d in (
            [],
            x,
            subst (λ l. IsOnLine (x ∷ es) start l [] x) u.0 (on_line-head x es start),
            subst (λ b. Fails b x r) (sym (append-nil front)) u.1,
          )
      | inr d ↦
          let u = event_from (front ++ x ∷ []) (suc start) es line r d in (
            x ∷ u.0,
            u.1,
            on_line-cons x es start line u.0 u.1 u.2,
            subst (λ b. Fails b u.1 r) (append_assoc front (x ∷ []) u.0) u.3,
          )
    ]

pub value_installer : (h : History) (k : List ℕ) (i : Option ℕ) (v : List ℕ) → shown_by k h.events i ≡ Some v
    → (u : ℕ) × (i ≡ Some u)
value_installer h k None v e = absurd (none-some v e)
value_installer h k (Some u) v e = (u, refl)

pub not_none : (o : Option (List ℕ)) → is_none o ≡ false → (v : List ℕ) × (o ≡ Some v)
not_none None e = absurd (both_ways true e refl)
not_none (Some v) e = (v, refl)

module _ (h : History) where
  pub leaves_open_from : all_end h ≡ false → LeavesOpen h
  leaves_open_from f =
      let r = list_all-failed (λ e. has_ended h.events (txn_of e) || is_unfinished h (txn_of e)) h.events f in
      let p = or_parts _ _ r.2 in
      (r.0, r.1, p.0, p.1)

  pub all_end_fails : LeavesOpen h → all_end h ≡ false
  all_end_fails l =
      list_all_fails_at (λ e. has_ended h.events (txn_of e) || is_unfinished h (txn_of e)) h.events l.0 l.1
      (or_from _ _ l.2 l.3)

  pub lacks_order_from : has_lines h ≡ false → LacksOrder h
  lacks_order_from f =
      let r = list_all-failed (λ w. not (is_committed h.events w.version.txn) || list_any
      (λ o. key_eq o.key w.version.key) h.orders) (filter_map written h.events) f in
      let w = r.0 in
      let p = or_parts _ _ r.2 in (
        w.version.key,
        w.version.txn,
        and_from _ _ (not-false _ p.0) (has_last_write h.events w r.1),
        λ o c s. both_ways _ p.1 (list_any_when (λ x. key_eq x.key w.version.key) h.orders o c (bytes_eq-from _ _ s)),
      )

  pub has_lines_fails : LacksOrder h → has_lines h ≡ false
  has_lines_fails l =
      let w = installs_write h.events l.0 l.1 l.2 in
      let at = w.1 in
      list_all_fails_at (λ x. not (is_committed h.events x.version.txn) || list_any
      (λ o. key_eq o.key x.version.key) h.orders) (filter_map written h.events) w.0 at.there
      (or_from _ _ (not_from_true _ (subst (λ t. is_committed h.events t ≡ true) (sym at.txn_is) (and_parts _ _ l.2).0))
      (false_from_ne_true _ (λ t.
      let r = list_any-source (λ o. key_eq o.key w.0.version.key) h.orders t in
      l.3 r.0 r.1 (bytes_eq-same _ _ r.2 ∙ at.key_is))))

  pub lacks_final_from : has_finals h ≡ false → LacksFinal h
  lacks_final_from f =
      let r = list_all-failed (λ o. is_none (last_value h o.key) || is_some (final_value h.finals o.key)) h.orders f in
      let p = or_parts _ _ r.2 in
      let v = not_none _ p.0 in
      let none = sym (final_any h.finals r.0.key) ∙ p.1 in (
        r.0.key,
        v.0,
        v.1,
        λ x c s. both_ways _ none (list_any_when (λ f. key_eq f.key r.0.key) h.finals x c (bytes_eq-from _ _ s)),
      )

  pub has_finals_fails : LacksFinal h → has_finals h ≡ false
  has_finals_fails l =
      let i = value_installer h l.0 (installer h l.0 (length (writers h l.0))) l.1 l.2 in
      let o = installer_line h l.0 (length (writers h l.0)) i.0 i.1 in
      list_all_fails_at (λ x. is_none (last_value h x.key) || is_some (final_value h.finals x.key)) h.orders o.0 o.1
      (or_from _ _ (ap is_none (ap (last_value h) o.2 ∙ l.2))
      (false_from_ne_true _ (λ t.
      let f = list_any-source (λ f. key_eq f.key o.0.key) h.finals (sym (final_any h.finals o.0.key) ∙ t) in
      l.3 f.0 f.1 (bytes_eq-same _ _ f.2 ∙ o.2))))
