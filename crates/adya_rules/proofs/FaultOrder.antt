-- The faults of the rules are in the order of line and number, so the first of them is the least.
use Rattle.std.proofs.Common.{◌≡◌, ℕ, suc, ◌+◌, ◌*◌, ◌-◌, get_or, ◌<◌, ◌≤◌, Bool, true, false, not, append_assoc, List, [], ◌∷◌, ◌++◌, length, Some, refl, sym, ◌∙◌, ap, subst, arith, inl, inr}
use Rattle.std.specs.List.{Contains}
use Rattle.std.proofs.lemmas.Bool.{cases_lt}
use Rattle.std.proofs.lemmas.Option.{same_Some}
use Rattle.std.proofs.lemmas.List.Elements.{Contains-append_cases}
use Rattle.adya_values.specs.declared.fault.Rule.{Rule}
use Rattle.adya_values.specs.declared.fault.Rule.TheVariants.{M1, M2, M3, M4, M5, M6, M7, M8}
use Rattle.adya_values.specs.Computing.Faults.{Fault, Malformed, AbortedRead, IntermediateRead, is_open, is_next, was_written, sees_own, is_rising, fault_unless, faults_at, event_faults, unfinished_faults, all_end, lists_exactly, order_faults, has_lines, last_value, is_value, final_faults, has_finals, unfinished_line, orders_line, finals_line, tail_line, malformed, first}
use Rattle.adya_values.specs.Meaning.Histories.{Event, Order, FinalPair, History}
use Rattle.adya_values.specs.Meaning.Events.{written}
use Rattle.adya_values.specs.Clauses.Rules.{has_ended, installs}
use Rattle.lemmas.proofs.Members.{none_contained, Contains-cases}
use Rattle.adya_values.proofs.Faults.{HasFaultPerLine, first_append, first_contained}
use Rattle.adya_rules.specs.Clauses.FirstFaults.{number, IsNoLater}

-- a number that rises with line and rule; that of other faults is 0
abbrev pub rank : Fault → ℕ
rank (Malformed line rule) = 9 * line + number rule
rank (AbortedRead line v) = 0
rank (IntermediateRead line v) = 0

pub number_low : (r : Rule) → 1 ≤ number r
number_low M1 = omega arith
number_low M2 = omega arith
number_low M3 = omega arith
number_low M4 = omega arith
number_low M5 = omega arith
number_low M6 = omega arith
number_low M7 = omega arith
number_low M8 = omega arith

pub number_high : (r : Rule) → number r ≤ 8
number_high M1 = omega arith
number_high M2 = omega arith
number_high M3 = omega arith
number_high M4 = omega arith
number_high M5 = omega arith
number_high M6 = omega arith
number_high M7 = omega arith
number_high M8 = omega arith

pub no_later_from_rank : (line : ℕ) (rule : Rule) (l : ℕ) (r : Rule) → rank (Malformed line rule) ≤ rank (Malformed l r)
    → IsNoLater line (number rule) l (number r)
no_later_from_rank line rule l r h =
    let low = number_low rule in
    let high = number_high r in
    elim (cases_lt line l) [
      | inl below ↦ inl below
      | inr above ↦ inr (omega (arith, low, high, above, h), omega (arith, low, high, above, h))
    ]

pub rank_from_no_later : (line : ℕ) (rule : Rule) (l : ℕ) (r : Rule) → IsNoLater line (number rule) l (number r)
    → rank (Malformed line rule) ≤ rank (Malformed l r)
rank_from_no_later line rule l r (inl below) =
    let low = number_low r in let high = number_high rule in omega (arith, low, high, below)
rank_from_no_later line rule l r (inr same) = let e = same.0 in let le = same.1 in omega (arith, e, le)

-- the ranks of the faults lie from low to below high, and that of the first is the least
pub record InOrder (low high : ℕ) (xs : List Fault) : Type 0 where
  pub from_low : (f : Fault) → Contains xs f → low ≤ rank f
  pub below_high : (f : Fault) → Contains xs f → rank f < high
  pub least : (f g : Fault) → first xs ≡ Some f → Contains xs g → rank f ≤ rank g

pub none_in_order : (low high : ℕ) → InOrder low high []
none_in_order low high = record {
  from_low = λ f c. absurd (none_contained f c);
  below_high = λ f c. absurd (none_contained f c);
  least = λ f g e c. absurd (none_contained g c);
}

pub wider : (low high less more : ℕ) (xs : List Fault) → InOrder low high xs → less ≤ low → high ≤ more
    → InOrder less more xs
wider low high less more xs o l m = record {
  from_low = λ f c. let h = o.from_low f c in omega (arith, h, l);
  below_high = λ f c. let h = o.below_high f c in omega (arith, h, m);
  least = o.least;
}

pub least_append : (low mid high : ℕ) (xs ys : List Fault) → InOrder low mid xs → InOrder mid high ys
    → (f g : Fault) → first (xs ++ ys) ≡ Some f → Contains (xs ++ ys) g → rank f ≤ rank g
least_append low mid high xs ys o p f g e c =
    elim (first_append xs ys f e) [
      | inl here ↦
          (elim (Contains-append_cases xs ys g c) [
            | inl left ↦ o.least f g here left
            | inr right ↦
                let below = o.below_high f (first_contained xs f here) in
                let above = p.from_low g right in
                omega (arith, below, above)
          ])
      | inr later ↦
          (elim (Contains-append_cases xs ys g c) [
            | inl left ↦ absurd (none_contained g (subst (λ zs. Contains zs g) later.0 left))
            | inr right ↦ p.least f g later.1 right
          ])
    ]

pub append_in_order : (low mid high : ℕ) (xs ys : List Fault) → low ≤ mid → mid ≤ high → InOrder low mid xs
    → InOrder mid high ys → InOrder low high (xs ++ ys)
append_in_order low mid high xs ys l m o p = record {
  from_low = λ f c. elim (Contains-append_cases xs ys f c) [
    | inl left ↦ o.from_low f left
    | inr right ↦ let h = p.from_low f right in omega (arith, h, l)
  ];
  below_high = λ f c. elim (Contains-append_cases xs ys f c) [
    | inl left ↦ let h = o.below_high f left in omega (arith, h, m)
    | inr right ↦ p.below_high f right
  ];
  least = least_append low mid high xs ys o p;
}

pub only_one : (x f : Fault) → Contains (x ∷ []) f → x ≡ f
only_one x f c = elim (Contains-cases x [] f c) [
  | inl e ↦ e
  | inr r ↦ absurd (none_contained f r)
]

pub one_in_order : (x : Fault) (low high : ℕ) → low ≤ rank x → rank x < high → InOrder low high (x ∷ [])
one_in_order x low high l m = record {
  from_low = λ f c. subst (λ y. low ≤ rank y) (only_one x f c) l;
  below_high = λ f c. subst (λ y. rank y < high) (only_one x f c) m;
  least = λ f g e c. let s : rank f ≡ rank g = ap rank (sym (same_Some x f e) ∙ only_one x g c) in omega (arith, s);
}

pub unless_in_order : (b : Bool) (line : ℕ) (rule : Rule) (low high : ℕ) → low ≤ 9 * line + number rule
    → 9 * line + number rule < high → InOrder low high (fault_unless b line rule)
unless_in_order true line rule low high l m = none_in_order low high
unless_in_order false line rule low high l m = one_in_order (Malformed line rule) low high l m

module _ {X : Type 0} (test : X → Bool) (rule : Rule) (faults : ℕ → List X → List Fault)
    (none : (line : ℕ) → faults line [] ≡ [])
    (step : HasFaultPerLine test rule faults) where
  pub lines_in_order : (start : ℕ) (xs : List X)
      → InOrder (9 * start + number rule) (9 * (start + length xs) + number rule) (faults start xs)
  lines_in_order start [] = subst (InOrder _ _) (sym (none start)) (none_in_order _ _)
  lines_in_order start (x ∷ xs) =
      subst (InOrder _ _) (sym (step start x xs))
      (append_in_order (9 * start + number rule) (9 * suc start + number rule)
      (9 * (start + length (x ∷ xs)) + number rule) (fault_unless (test x) start rule) (faults (suc start) xs)
      (omega arith) (omega arith)
      (unless_in_order (test x) start rule _ _ (omega arith) (omega arith))
      (wider _ _ _ _ (faults (suc start) xs) (lines_in_order (suc start) xs) (omega arith) (omega arith)))

pub event_in_order : (before : List Event) (line : ℕ) (e : Event)
    → InOrder (9 * line) (9 * suc line) (faults_at before line e)
event_in_order before line e =
    let f2 = fault_unless (is_next before (written e)) line M2 in
    let f3 = fault_unless (was_written before e) line M3 in
    let f4 = fault_unless (sees_own before e) line M4 in
    let f5 = fault_unless (is_rising e) line M5 in
    append_in_order (9 * line) (9 * line + 2) (9 * suc line) _ (f2 ++ (f3 ++ (f4 ++ f5))) (omega arith) (omega arith)
    (unless_in_order (is_open before e) line M1 _ _ (omega arith) (omega arith))
    (append_in_order (9 * line + 2) (9 * line + 3) (9 * suc line) f2 (f3 ++ (f4 ++ f5)) (omega arith) (omega arith)
    (unless_in_order _ line M2 _ _ (omega arith) (omega arith))
    (append_in_order (9 * line + 3) (9 * line + 4) (9 * suc line) f3 (f4 ++ f5) (omega arith) (omega arith)
    (unless_in_order _ line M3 _ _ (omega arith) (omega arith))
    (append_in_order (9 * line + 4) (9 * line + 5) (9 * suc line) f4 f5 (omega arith) (omega arith)
    (unless_in_order _ line M4 _ _ (omega arith) (omega arith))
    (unless_in_order _ line M5 _ _ (omega arith) (omega arith)))))

pub events_in_order : (before : List Event) (start : ℕ) (es : List Event)
    → InOrder (9 * start) (9 * (start + length es)) (event_faults before start es)
events_in_order before start [] = none_in_order _ _
events_in_order before start (e ∷ es) =
    append_in_order (9 * start) (9 * suc start) (9 * (start + length (e ∷ es))) (faults_at before start e)
    (event_faults (before ++ e ∷ []) (suc start) es) (omega arith) (omega arith) (event_in_order before start e)
    (wider _ _ _ _ (event_faults (before ++ e ∷ []) (suc start) es) (events_in_order (before ++ e ∷ []) (suc start) es)
    (omega arith) (omega arith))

module _ (h : History) where
  pub finals_in_order : InOrder (9 * finals_line h + 8) (9 * tail_line h + 9)
      (final_faults h (finals_line h) h.finals ++ fault_unless (has_finals h) (tail_line h) M8)
  finals_in_order =
      append_in_order _ (9 * tail_line h + 8) _ (final_faults h (finals_line h) h.finals)
      (fault_unless (has_finals h) (tail_line h) M8) (omega arith) (omega arith)
      (lines_in_order (λ (f : FinalPair). is_value (last_value h f.key) f.value) M8 (final_faults h) (λ _. refl)
      (λ _ _ _. refl) (finals_line h) h.finals)
      (unless_in_order (has_finals h) (tail_line h) M8 _ _ (omega arith) (omega arith))

  pub orders_in_order : InOrder (9 * orders_line h + 7) (9 * finals_line h + 8)
      (order_faults h.events (orders_line h) h.orders ++ fault_unless (has_lines h) (finals_line h) M7)
  orders_in_order =
      append_in_order _ (9 * finals_line h + 7) _ (order_faults h.events (orders_line h) h.orders)
      (fault_unless (has_lines h) (finals_line h) M7) (omega arith) (omega arith)
      (lines_in_order (λ (o : Order). lists_exactly (installs h.events o.key) o.writers h.events) M7
      (order_faults h.events) (λ _. refl) (λ _ _ _. refl) (orders_line h) h.orders)
      (unless_in_order (has_lines h) (finals_line h) M7 _ _ (omega arith) (omega arith))

  pub unfinished_in_order : InOrder (9 * unfinished_line h + 6) (9 * orders_line h + 7)
      (unfinished_faults h.events (unfinished_line h) h.unfinished ++ fault_unless (all_end h) (orders_line h) M6)
  unfinished_in_order =
      append_in_order _ (9 * orders_line h + 6) _ (unfinished_faults h.events (unfinished_line h) h.unfinished)
      (fault_unless (all_end h) (orders_line h) M6) (omega arith) (omega arith)
      (lines_in_order (λ t. not (has_ended h.events t)) M6 (unfinished_faults h.events) (λ _. refl) (λ _ _ _. refl)
      (unfinished_line h) h.unfinished)
      (unless_in_order (all_end h) (orders_line h) M6 _ _ (omega arith) (omega arith))

  pub malformed_in_order : InOrder 18 (9 * tail_line h + 9) (malformed h)
  malformed_in_order =
      let f1 = event_faults [] 2 h.events in
      let f2 = unfinished_faults h.events (unfinished_line h) h.unfinished in
      let f3 = fault_unless (all_end h) (orders_line h) M6 in
      let f4 = order_faults h.events (orders_line h) h.orders in
      let f5 = fault_unless (has_lines h) (finals_line h) M7 in
      let f6 = final_faults h (finals_line h) h.finals in
      let f7 = fault_unless (has_finals h) (tail_line h) M8 in
      let late = append_in_order _ (9 * finals_line h + 8) _ (f4 ++ f5) (f6 ++ f7) (omega arith) (omega arith)
      orders_in_order finals_in_order in
      let middle = append_in_order _ (9 * orders_line h + 7) _ (f2 ++ f3) ((f4 ++ f5) ++ (f6 ++ f7)) (omega arith)
      (omega arith) unfinished_in_order late in
      let events = wider _ _ 18 (9 * unfinished_line h + 6) f1 (events_in_order [] 2 h.events) (omega arith)
      (omega arith) in
      let all = append_in_order _ (9 * unfinished_line h + 6) _ f1 ((f2 ++ f3) ++ ((f4 ++ f5) ++ (f6 ++ f7)))
      (omega arith) (omega arith) events middle in
      subst (InOrder 18 (9 * tail_line h + 9))
      (ap (λ xs. f1 ++ xs) (append_assoc f2 f3 ((f4 ++ f5) ++ (f6 ++ f7)) ∙
      ap (λ xs. f2 ++ (f3 ++ xs)) (append_assoc f4 f5 (f6 ++ f7)))) all

-- the rule of the number
abbrev pub rule_of : ℕ → Rule
rule_of n = get_or (M1 ∷ M2 ∷ M3 ∷ M4 ∷ M5 ∷ M6 ∷ M7 ∷ M8 ∷ []) (n - 1) M8

pub rule_of-number : (r : Rule) → rule_of (number r) ≡ r
rule_of-number M1 = refl
rule_of-number M2 = refl
rule_of-number M3 = refl
rule_of-number M4 = refl
rule_of-number M5 = refl
rule_of-number M6 = refl
rule_of-number M7 = refl
rule_of-number M8 = refl

pub same_number : (r s : Rule) → number r ≡ number s → r ≡ s
same_number r s e = sym (rule_of-number r) ∙ (ap rule_of e ∙ rule_of-number s)

-- of equal ranks the line and the rule are the same
pub same_from_ranks : (line : ℕ) (rule : Rule) (l : ℕ) (r : Rule)
    → rank (Malformed line rule) ≤ rank (Malformed l r) → rank (Malformed l r) ≤ rank (Malformed line rule)
    → Malformed line rule ≡ Malformed l r
same_from_ranks line rule l r a b =
    let one = number_low rule in
    let two = number_high rule in
    let three = number_low r in
    let four = number_high r in
    let lines : line ≡ l = omega (arith, one, two, three, four, a, b) in
    let numbers : number rule ≡ number r = omega (arith, lines, a, b) in
    ap (λ n. Malformed n rule) lines ∙ ap (Malformed l) (same_number rule r numbers)

-- a fault with a rank is one of the rules
pub malformed_from_rank : (f : Fault) → 1 ≤ rank f → (line : ℕ) × (rule : Rule) × (f ≡ Malformed line rule)
malformed_from_rank (Malformed line rule) l = (line, rule, refl)
malformed_from_rank (AbortedRead line v) l = absurd (omega (arith, l))
malformed_from_rank (IntermediateRead line v) l = absurd (omega (arith, l))
