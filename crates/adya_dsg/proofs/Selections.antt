-- What is selected, line by line.
use Rattle.std.proofs.Common.{◌≡◌, ◌≢◌, ℕ, zero, suc, ◌+◌, ◌==◌, ◌<◌, ◌≤◌, true, false, cond, not, ◌&&◌, List, [], ◌∷◌, ◌++◌, map, drop, length, Option, Some, None, option_map, option_to_list, slice_get, nat_cmp, is_le, is_lt, Ordering, Less, Equal, Greater, refl, sym, ◌∙◌, ap, subst, arith, inl, inr, append_assoc}
use Rattle.std.specs.List.{filter_map, cons_option}
use Rattle.std.specs.Ordering.{ordering_reverse}
use Rattle.std.specs.Cmp.Lexicographic.{slice_cmp, nat_list_cmp_total}
use Rattle.std.proofs.lemmas.Bool.{cases_lt, and_left, and_right, and_from, false_from_ne_true}
use Rattle.std.proofs.lemmas.Option.{none-some}
use Rattle.adya_values.specs.declared.event.Version.{Version}
use Rattle.adya_keys.specs.Meaning.Keys.{key_eq, key_lt, key_le, keys_rise, lies_in}
use Rattle.adya_values.specs.Meaning.Histories.{Abort, Commit, Delete, Entry, Event, History, Order, Read, Scan, Write}
use Rattle.adya_values.specs.Meaning.Events.{listed, observed}
use Rattle.adya_values.specs.Mirror.Numbers.{bounds}
use Rattle.adya_values.specs.Meaning.Orders.{place, writers}
use Rattle.adya_values.specs.Meaning.Selections.{selected, place_of}
use Rattle.adya_terms.specs.Mirror.LineNumbers.{key_of}
use Rattle.adya_dsg.specs.Machinery.Choices.{Choice, choice, choices}
use Rattle.lemmas.proofs.Orderings.{less_from_is_lt, bytes_eq-same, bytes_eq-itself}
use Rattle.adya_dsg.proofs.Keys.{key_eq-lt, key_eq-gt}
use Rattle.adya_dsg.proofs.Lines.{rises_at}

module _ (f : List ℕ → Option ℕ) where
  -- the choices of these lines
  abbrev pub chosen_in : List Order → List Choice
  chosen_in os = filter_map (λ o. option_map (choice o.key) (f o.key)) os

  pub none_chosen : (os : List Order) → ((i : ℕ) → i < length os → f (key_of (slice_get os i)) ≡ None)
      → chosen_in os ≡ []
  none_chosen [] h = refl
  none_chosen (o ∷ os) h =
      ap (λ s. cons_option (option_map (choice o.key) s) (chosen_in os)) (h 0 (omega arith)) ∙
      none_chosen os (λ i l. h (suc i) (omega (arith, l)))

  alone : (r : Option Choice) → cons_option r [] ≡ option_to_list r
  alone None = refl
  alone (Some c) = refl

  pub one_chosen : (os : List Order) (i : ℕ) → i < length os
      → ((j : ℕ) → j < length os → j ≢ i → f (key_of (slice_get os j)) ≡ None)
      → chosen_in os
      ≡ option_to_list (option_map (choice (key_of (slice_get os i))) (f (key_of (slice_get os i))))
  one_chosen [] i l h = absurd (omega (arith, l))
  one_chosen (o ∷ os) zero l h =
      ap (cons_option (option_map (choice o.key) (f o.key)))
      (none_chosen os (λ j m. h (suc j) (omega (arith, m)) (λ e. omega (arith, e)))) ∙
      alone (option_map (choice o.key) (f o.key))
  one_chosen (o ∷ os) (suc i) l h =
      ap (λ s. cons_option (option_map (choice o.key) s) (chosen_in os)) (h 0 (omega arith) (λ e. omega (arith, e))) ∙
      one_chosen os i (omega (arith, l))
      (λ j m ne. h (suc j) (omega (arith, m)) (λ e. ne (omega (arith, e))))

  -- first lines that give nothing
  pub skipped : (os : List Order) (n : ℕ) → ((i : ℕ) → i < n → i < length os → f (key_of (slice_get os i)) ≡ None)
      → chosen_in (drop n os) ≡ chosen_in os
  skipped os zero h = refl
  skipped [] (suc n) h = refl
  skipped (o ∷ os) (suc n) h =
      skipped os n (λ i l m. h (suc i) (omega (arith, l)) (omega (arith, m))) ∙
      sym (ap (λ s. cons_option (option_map (choice o.key) s) (chosen_in os)) (h 0 (omega arith) (omega arith)))

  -- last lines that give nothing
  pub ended : (os : List Order) (n : ℕ) → ((i : ℕ) → n ≤ i → i < length os → f (key_of (slice_get os i)) ≡ None)
      → chosen_in (drop n os) ≡ []
  ended os zero h = none_chosen os (λ i l. h i (omega arith) l)
  ended [] (suc n) h = refl
  ended (o ∷ os) (suc n) h = ended os n (λ i l m. h (suc i) (omega (arith, l)) (omega (arith, m)))

  at_line : (os : List Order) (i : ℕ) → i < length os
      → chosen_in (drop i os)
      ≡ cons_option (option_map (choice (key_of (slice_get os i))) (f (key_of (slice_get os i)))) (chosen_in (drop (suc i) os))
  at_line [] i l = absurd (omega (arith, l))
  at_line (o ∷ os) zero l = refl
  at_line (o ∷ os) (suc i) l = at_line os i (omega (arith, l))

  module _ (os : List Order) (i : ℕ) (l : i < length os) (done all : List Choice)
      (s : done ++ chosen_in (drop i os) ≡ all) where
    abbrev k : List ℕ
    k = key_of (slice_get os i)

    unfolded : (r : Option ℕ) → f k ≡ r
        → done ++ cons_option (option_map (choice k) r) (chosen_in (drop (i + 1) os)) ≡ all
    unfolded r e =
        let next : suc i ≡ i + 1 = omega arith in
        sym (ap (λ zs. done ++ zs)
        (at_line os i l ∙
        (ap (λ o. cons_option (option_map (choice k) o) (chosen_in (drop (suc i) os))) e ∙
        ap (λ j. cons_option (option_map (choice k) r) (chosen_in (drop j os))) next))) ∙ s

    pub chosen_step : (p : ℕ) → f k ≡ Some p → (done ++ choice k p ∷ []) ++ chosen_in (drop (i + 1) os) ≡ all
    chosen_step p e = append_assoc done (choice k p ∷ []) (chosen_in (drop (i + 1) os)) ∙ unfolded (Some p) e

    pub passed_step : f k ≡ None → done ++ chosen_in (drop (i + 1) os) ≡ all
    passed_step e = unfolded None e

-- keys of lines, if they rise
module _ (os : List Order) (rise : keys_rise (map (λ (o : Order). o.key) os) ≡ true) where
  -- another line has another key
  pub other_key : (k : List ℕ) (i j : ℕ) → i < length os → j < length os → j ≢ i → key_of (slice_get os i) ≡ k
      → key_eq k (key_of (slice_get os j)) ≡ false
  other_key k i j l m ne e =
      elim (cases_lt j i) [
        | inl less ↦ key_eq-gt k _ (subst (λ x. key_lt (key_of (slice_get os j)) x ≡ true) e (rises_at os rise j i less l))
        | inr more ↦ key_eq-lt k _ (subst (λ x. key_lt x (key_of (slice_get os j)) ≡ true) e
            (rises_at os rise i j (omega (arith, more, ne)) m))
      ]

module _ (h : History) (t : ℕ) (r : Version) (v : List ℕ) where
  pub read_own : (r.txn == t) ≡ true → [] ≡ choices h (Read t r v)
  read_own own =
      sym (none_chosen (selected h (Read t r v)) h.orders
      (λ i l. ap (λ b. cond b (Some (suc (place (writers h (key_of (slice_get h.orders i))) r.txn))) None)
      (and_right _ _ (ap not own))))

  pub read_nowhere : ((i : ℕ) → i < length h.orders → key_of (slice_get h.orders i) ≡ r.key → ⊥)
      → [] ≡ choices h (Read t r v)
  read_nowhere none =
      sym (none_chosen (selected h (Read t r v)) h.orders
      (λ i l. ap (λ b. cond b (Some (suc (place (writers h (key_of (slice_get h.orders i))) r.txn))) None)
      (and_left _ _ (false_from_ne_true _ (λ e. none i l (sym (bytes_eq-same _ _ e)))))))

  pub read_found : keys_rise (map (λ (o : Order). o.key) h.orders) ≡ true → (r.txn == t) ≡ false → (i : ℕ)
      → i < length h.orders → key_of (slice_get h.orders i) ≡ r.key
      → choice (key_of (slice_get h.orders i)) (suc (place (writers h (key_of (slice_get h.orders i))) r.txn)) ∷ []
      ≡ choices h (Read t r v)
  read_found rise other i l e =
      let k = key_of (slice_get h.orders i) in
      let here : (key_eq r.key k && not (r.txn == t)) ≡ true =
      and_from _ _ (ap (λ j. key_eq j k) (sym e) ∙ bytes_eq-itself k) (ap not other) in
      sym
      (one_chosen (selected h (Read t r v)) h.orders i l
      (λ j m ne. ap (λ b. cond b (Some (suc (place (writers h (key_of (slice_get h.orders j))) r.txn))) None)
      (and_left _ _ (other_key h.orders rise r.key i j l m ne e))) ∙
      ap (λ b. option_to_list (option_map (choice k) (cond b (Some (suc (place (writers h k) r.txn))) None))) here)

lies_below : (low high k : List ℕ) → key_lt k low ≡ true → lies_in low high k ≡ false
lies_below low high k h =
    and_left _ _ (ap is_le (nat_list_cmp_total.antisymm low k ∙ ap ordering_reverse (less_from_is_lt _ h)))

lies_above : (low high k : List ℕ) → key_lt high k ≡ true → lies_in low high k ≡ false
lies_above low high k h =
    and_right _ _ (ap is_le (nat_list_cmp_total.antisymm k high ∙ ap ordering_reverse (less_from_is_lt _ h)))

reversed_le : (o : Ordering) → is_lt o ≡ false → is_le (ordering_reverse o) ≡ true
reversed_le Less e = absurd (cc (e))
reversed_le Equal e = refl
reversed_le Greater e = refl

not_below : (a b : List ℕ) → key_lt a b ≡ false → key_le b a ≡ true
not_below a b e = ap is_le (nat_list_cmp_total.antisymm b a) ∙ reversed_le (slice_cmp nat_cmp a b) e

module _ (h : History) (t : ℕ) (low high : List ℕ) (es : List Entry) where
  abbrev f : List ℕ → Option ℕ
  f = selected h (Scan t low high es)

  outside : (k : List ℕ) → lies_in low high k ≡ false → f k ≡ None
  outside k e = ap (λ b. cond b (place_of h t k (listed k es)) None) e

  pub scan_starts : (n : ℕ) → ((i : ℕ) → i < n → key_lt (key_of (slice_get h.orders i)) low ≡ true)
      → chosen_in f (drop n h.orders) ≡ choices h (Scan t low high es)
  scan_starts n below = skipped f h.orders n (λ i l m. outside _ (lies_below low high _ (below i l)))

  pub scan_ends : (n : ℕ) → ((i : ℕ) → n ≤ i → i < length h.orders → key_lt high (key_of (slice_get h.orders i)) ≡ true)
      → chosen_in f (drop n h.orders) ≡ []
  scan_ends n above = ended f h.orders n (λ i l m. outside _ (lies_above low high _ (above i l m)))

  pub inside : (k : List ℕ) → key_lt k low ≡ false → key_lt high k ≡ false → f k ≡ place_of h t k (listed k es)
  inside k a b = ap (λ z. cond z (place_of h t k (listed k es)) None) (and_from _ _ (not_below k low a) (not_below high k b))

-- an event that is no scan and doesn't see one entry selects nothing
pub nothing_chosen : (h : History) (e : Event) → bounds e ≡ None → (length (observed e) ≡ 1 → ⊥) → [] ≡ choices h e
nothing_chosen h (Write t k m v) b o = sym (none_chosen (selected h (Write t k m v)) h.orders (λ i l. refl))
nothing_chosen h (Delete t k m) b o = sym (none_chosen (selected h (Delete t k m)) h.orders (λ i l. refl))
nothing_chosen h (Read t r v) b o = absurd (o refl)
nothing_chosen h (Scan t low high es) b o = absurd (none-some (low, high) (sym b))
nothing_chosen h (Commit t) b o = sym (none_chosen (selected h (Commit t)) h.orders (λ i l. refl))
nothing_chosen h (Abort t) b o = sym (none_chosen (selected h (Abort t)) h.orders (λ i l. refl))
