-- The places of writers in the lines of their keys, event by event.
use Rattle.std.proofs.Common.{◌≡◌, ◌≢◌, ℕ, zero, suc, ◌==◌, ◌<◌, ◌≤◌, ◌⊎◌, Bool, true, false, cond, is_some, not, List, [], ◌∷◌, length, get_or, set, Option, Some, slice_get, slice_index, map, replicate, refl, sym, ◌∙◌, ap, subst, inl, inr, arith, get_or-set_other, get_or-set_same}
use Rattle.std.proofs.lemmas.Bool.{and_parts, and_from, both_ways, cases_Bool, cases_eq, cases_lt, false_from_ne_true, ne_eqb}
use Rattle.std.proofs.lemmas.List.{length-replicate, length-set}
use Rattle.std.proofs.lemmas.Option.{get_or_from_slice_get, none-some, same_Some, slice_get-get_or, slice_get_past, slice_get_within}
use Rattle.adya_values.specs.declared.event.Version.{Version}
use Rattle.adya_values.specs.Meaning.Histories.{Entry, Event}
use Rattle.adya_values.specs.Meaning.Events.{is_committed, last_write}
use Rattle.adya_values.specs.Clauses.Rules.{installs}
use Rattle.adya_values.specs.Computing.Faults.{lists_exactly}
use Rattle.adya_values.proofs.ListsExactly.{counts_from_test, test_from_counts}
use Rattle.adya_values.proofs.Writes.{committed_source, last_write_from}
use Rattle.adya_terms.specs.Machinery.Tables.{own, written_at, written_by, Own, Tell}
use Rattle.adya_terms.specs.Machinery.Places.{held, is_full, HasPlace, Installs, IsInjective, IsOfWriter, IsPlaced}
use Rattle.lemmas.proofs.Counts.{count, count_at, count_other, count_place, count_same, count_twice}
use Rattle.lemmas.proofs.Options.{some_value}
use Rattle.lemmas.proofs.Tests.{all_pass, list_all_when}

-- ---- the tables have each event at most once

-- the event at the index of a transaction's last write of a key
record IsWrite (all : List Event) (t : ℕ) (k : List ℕ) (at : ℕ) : Type 0 where
  wrote : Entry
  there : written_at all (Some at) ≡ Some wrote
  txn_is : wrote.version.txn ≡ t
  key_is : wrote.version.key ≡ k

module _ (c a : ℕ → Bool) (l : Own → Option ℕ) (v : Version → Option ℕ) (all : List Event) (m : Tell c a l v all all) where
  last_is_write : (t : ℕ) (k : List ℕ) (at : ℕ) → l (own t k) ≡ Some at → IsWrite all t k at
  last_is_write t k at e =
      let last = some_value (last_write t k all) (sym (m.has_is t k) ∙ ap is_some e) in
      let from = last_write_from t k all last.0 last.1 in
      record {
        wrote = last.0;
        there = ap (written_at all) (sym e) ∙ (m.last_is t k ∙ last.1);
        txn_is = from.txn_is;
        key_is = from.key_is;
      }

  pub injective : IsInjective l
  injective t k u j at e f =
      let x = last_is_write t k at e in
      let y = last_is_write u j at f in
      let same : x.wrote ≡ y.wrote = same_Some _ _ (sym x.there ∙ y.there) in (
        sym x.txn_is ∙ (ap (λ (w : Entry). w.version.txn) same ∙ y.txn_is),
        sym x.key_is ∙ (ap (λ (w : Entry). w.version.key) same ∙ y.key_is),
      )

  pub last_within : (t : ℕ) (k : List ℕ) (at : ℕ) → l (own t k) ≡ Some at → at < length all
  last_within t k at e =
      let x = last_is_write t k at e in
      elim (cases_lt at (length all)) [
        | inl less ↦ less
        | inr past ↦ absurd (none-some x.wrote (ap written_by (sym (slice_get_past all at past)) ∙ x.there))
      ]

  -- what is written there is a write of the key
  pub writes_it : (t : ℕ) (k : List ℕ) (at : ℕ) → l (own t k) ≡ Some at → (o : Option Entry) → o ≡ written_at all (Some at)
      → (w : Entry) × (o ≡ Some w) × (w.version.txn ≡ t) × (w.version.key ≡ k)
  writes_it t k at last o wrote =
      let x = last_is_write t k at last in
      (x.wrote, wrote ∙ x.there, x.txn_is, x.key_is)

  -- who installs a version has a last write, and the other way round
  pub has_last : (k : List ℕ) (t : ℕ) → installs all k t ≡ true → (at : ℕ) × Installs all l k t at
  has_last k t i =
      let both = and_parts (is_committed all t) (is_some (last_write t k all)) i in
      let last = some_value (l (own t k)) (m.has_is t k ∙ both.1) in
      (last.0, record { committed = both.0; last_is = last.1 })

  pub installs_it : (k : List ℕ) (t at : ℕ) → Installs all l k t at → installs all k t ≡ true
  installs_it k t at x = and_from _ _ x.committed (sym (m.has_is t k) ∙ ap is_some x.last_is)

-- ---- a line, event by event

pub all_alike : {A : Type 0} (a : A) (n at : ℕ) → get_or (replicate n a) at a ≡ a
all_alike a zero at = refl
all_alike a (suc n) zero = refl
all_alike a (suc n) (suc at) = all_alike a n at

pub none_placed : (all : List Event) (l : Own → Option ℕ) (k ts : List ℕ) → IsPlaced all l 0 k ts (replicate (length ts) 0) false
none_placed all l k ts =
    let empty : (p at : ℕ) → get_or (replicate (length ts) 0) p 0 ≡ suc at → ⊥ = λ p at e. let none = all_alike {A = ℕ} 0 (length ts) p in omega (arith, e, none) in
    record {
      count = length-replicate (length ts) 0;
      filled = λ p at e. absurd (empty p at e);
      once = λ p q at e f. absurd (empty p at e);
      placed = λ t at i less. absurd (omega (arith, less));
      lacking = λ e. absurd (both_ways _ refl e);
    }

module _ (all : List Event) (l : Own → Option ℕ) (at : ℕ) (k ts ws : List ℕ) (lacks : Bool) (had : IsPlaced all l at k ts ws lacks) where
  filled_more : (p i : ℕ) → slice_index ws p ≡ suc i → IsOfWriter all l (suc at) k ts p i
  filled_more p i e =
      let w = had.filled p i e in
      let less = w.before in
      record { before = omega (arith, less); txn = w.txn; writer_is = w.writer_is; installs = w.installs }

  -- the event at the index installs no version of the key
  pub passed_by : ((t : ℕ) → Installs all l k t at → ⊥) → IsPlaced all l (suc at) k ts ws lacks
  passed_by none = record {
    count = had.count;
    filled = filled_more;
    once = had.once;
    placed = λ t i x less named. elim (cases_lt i at) [
      | inl old ↦ had.placed t i x old named
      | inr new ↦
          let here : i ≡ at = omega (arith, less, new) in
          absurd (none t (subst (Installs all l k t) here x))
    ];
    lacking = had.lacking;
  }

  -- it installs one by a transaction that isn't in the line
  pub one_lacking : (t : ℕ) → Installs all l k t at → count ts t ≡ 0 → IsPlaced all l (suc at) k ts ws true
  one_lacking t x none = record {
    count = had.count;
    filled = filled_more;
    once = had.once;
    placed = λ u i y less named. absurd (both_ways _ named refl);
    lacking = λ e. record { txn = t; at = at; installs = x; missing = none };
  }

  -- or by one that is at the place
  module _ (inj : IsInjective l) (t p : ℕ) (x : Installs all l k t at) (there : slice_get ts p ≡ Some t) where
    abbrev after : List ℕ
    after = set ws p (suc at)

    within : p < length ws
    within = let less = slice_get_within ts p t there in let long = had.count in omega (arith, less, long)

    here : get_or after p 0 ≡ suc at
    here = get_or-set_same ws p (suc at) 0 within

    elsewhere : (q : ℕ) → q ≢ p → get_or after q 0 ≡ get_or ws q 0
    elsewhere q other = get_or-set_other ws p q (suc at) 0 other

    -- no place holds the index yet, and this one holds none
    none_yet : (q : ℕ) → slice_index ws q ≡ suc at → ⊥
    none_yet q e = let less = (had.filled q at e).before in omega (arith, less)

    was_empty : (i : ℕ) → slice_index ws p ≡ suc i → ⊥
    was_empty i e =
        let w = had.filled p i e in
        let writer : w.txn ≡ t = same_Some _ _ (sym w.writer_is ∙ there) in
        let same : i ≡ at = same_Some _ _ (sym w.installs.last_is ∙ (ap (λ u. l (own u k)) writer ∙ x.last_is)) in
        let less = w.before in
        omega (arith, less, same)

    filled_now : (q i : ℕ) → slice_index after q ≡ suc i → IsOfWriter all l (suc at) k ts q i
    filled_now q i e = elim (cases_eq q p) [
      | inl same ↦
          let is : at ≡ i = cc (e, same, here) in
          record {
            before = omega (arith, is);
            txn = t;
            writer_is = ap (slice_get ts) same ∙ there;
            installs = subst (Installs all l k t) is x;
          }
      | inr other ↦ filled_more q i (sym (elsewhere q other) ∙ e)
    ]

    once_now : (q r i : ℕ) → slice_index after q ≡ suc i → slice_index after r ≡ suc i → q ≡ r
    once_now q r i e f = elim (cases_eq q p) [
      | inl qp ↦ elim (cases_eq r p) [
        | inl rp ↦ qp ∙ sym rp
        | inr other ↦
            let is : suc at ≡ suc i = cc (e, qp, here) in
            absurd (none_yet r (sym (elsewhere r other) ∙ (f ∙ sym is)))
      ]
      | inr other ↦ elim (cases_eq r p) [
        | inl rp ↦
            let is : suc at ≡ suc i = cc (f, rp, here) in
            absurd (none_yet q (sym (elsewhere q other) ∙ (e ∙ sym is)))
        | inr another ↦ had.once q r i (sym (elsewhere q other) ∙ e) (sym (elsewhere r another) ∙ f)
      ]
    ]

    placed_now : (u i : ℕ) → Installs all l k u i → i < suc at → lacks ≡ false → HasPlace ts after u i
    placed_now u i y less named = elim (cases_lt i at) [
      | inl old ↦
          let w = had.placed u i y old named in
          let other : w.place ≢ p = λ same. was_empty i (ap (slice_index ws) (sym same) ∙ w.holds) in
          record { place = w.place; writer_is = w.writer_is; holds = elsewhere w.place other ∙ w.holds }
      | inr new ↦
          let is : i ≡ at = omega (arith, less, new) in
          let same = inj u k t k i y.last_is (x.last_is ∙ ap Some (sym is)) in
          record { place = p; writer_is = there ∙ ap Some (sym same.0); holds = here ∙ ap suc (sym is) }
    ]

    pub one_placed : IsPlaced all l (suc at) k ts after lacks
    one_placed = record {
      count = length-set ws p (suc at) ∙ had.count;
      filled = filled_now;
      once = once_now;
      placed = placed_now;
      lacking = had.lacking;
    }

-- ---- a line in the end

-- functions that agree on what lists have at each place
pub alike : {A B C : Type 0} (f : A → C) (g : B → C) (xs : List A) (ys : List B) → length xs ≡ length ys
    → ((i : ℕ) (x : A) (y : B) → slice_get xs i ≡ Some x → slice_get ys i ≡ Some y → f x ≡ g y) → map f xs ≡ map g ys
alike f g [] [] long each = refl
alike f g [] (y ∷ ys) long each = absurd (omega (arith, long))
alike f g (x ∷ xs) [] long each = absurd (omega (arith, long))
alike f g (x ∷ xs) (y ∷ ys) long each =
    let rest : length xs ≡ length ys = omega (arith, long) in
    ap (λ z. z ∷ map f xs) (each 0 x y refl refl) ∙
    ap (λ zs. g y ∷ zs) (alike f g xs ys rest (λ i. each (suc i)))

-- the number stands at two places
record IsTwice (xs : List ℕ) (t : ℕ) : Type 0 where
  first : ℕ
  second : ℕ
  less : first < second
  first_is : slice_get xs first ≡ Some t
  second_is : slice_get xs second ≡ Some t

counted_twice : (xs : List ℕ) (t : ℕ) → 1 < count xs t → IsTwice xs t
counted_twice [] t more = absurd (omega arith)
counted_twice (x ∷ xs) t more =
    elim (cases_eq x t) [
      | inl e ↦
          let rest = count_place xs t (let same = count_same x xs t e in omega (arith, same, more)) in
          record { first = 0; second = suc rest.0; less = omega arith; first_is = ap Some e; second_is = rest.1 }
      | inr e ↦
          let rest = counted_twice xs t (let other = count_other x xs t e in omega (arith, other, more)) in
          let less = rest.less in
          record { first = suc rest.first; second = suc rest.second; less = omega (arith, less); first_is = rest.first_is; second_is = rest.second_is }
    ]

module _ (c a : ℕ → Bool) (l : Own → Option ℕ) (v : Version → Option ℕ) (all : List Event) (m : Tell c a l v all all)
    (k ts ws : List ℕ) (lacks : Bool) (done : IsPlaced all l (length all) k ts ws lacks) where
  abbrev is_exact : Bool
  is_exact = lists_exactly (installs all k) ts all

  module _ (full : is_full ws lacks ≡ true) where
    none_lacking : lacks ≡ false
    none_lacking = elim (cases_Bool lacks) [
      | inl e ↦ absurd (both_ways _ (ap not e) (and_parts (not lacks) _ full).0)
      | inr e ↦ e
    ]

    -- each place holds the index of its writer's last write
    pub each_held : (p t : ℕ) → slice_get ts p ≡ Some t → (at : ℕ) × (slice_index ws p ≡ suc at) × Installs all l k t at
    each_held p t e =
        let within = slice_get_within ts p t e in
        let long = done.count in
        let less : p < length ws = omega (arith, within, long) in
        let some : not (get_or ws p 0 == 0) ≡ true =
        all_pass (λ w. not (w == 0)) ws (get_or ws p 0) (and_parts (not lacks) _ full).1 (p, less, get_or_from_slice_get ws p (get_or ws p 0) (get_or ws p 0) (slice_get-get_or ws p 0 less)) in
        elim (value_cases (get_or ws p 0)) [
          | inl none ↦ absurd (both_ways _ (ap (λ w. not (w == 0)) none) some)
          | inr at ↦
              let w = done.filled p at.0 at.1 in
              let writer : w.txn ≡ t = same_Some _ _ (sym w.writer_is ∙ e) in
              (at.0, at.1, subst (λ u. Installs all l k u at.0) writer w.installs)
        ]
      where
        value_cases : (n : ℕ) → (n ≡ 0) ⊎ ((i : ℕ) × (n ≡ suc i))
        value_cases zero = inl refl
        value_cases (suc i) = inr (i, refl)

    pub line_is : map held ws ≡ map (λ t. l (own t k)) ts
    line_is =
        alike held (λ t. l (own t k)) ws ts done.count
        (λ p w t e f.
        let at = each_held p t f in
        ap held (sym (get_or_from_slice_get ws p w 0 e)) ∙ (ap held at.1 ∙ sym at.2.last_is))

    full_is_exact : is_exact ≡ true
    full_is_exact =
        test_from_counts (installs all k) ts all
        (λ t. elim (cases_Bool (installs all k t)) [
          | inl i ↦
              let x = has_last c a l v all m k t i in
              let w = done.placed t x.0 x.1 (last_within c a l v all m t k x.0 x.1.last_is) none_lacking in
              let some = count_at ts w.place t w.writer_is in
              let few : count ts t ≤ 1 = elim (cases_lt 1 (count ts t)) [
                | inl more ↦
                    let two = counted_twice ts t more in
                    let p = each_held two.first t two.first_is in
                    let q = each_held two.second t two.second_is in
                    let same : p.0 ≡ q.0 = same_Some _ _ (sym p.2.last_is ∙ q.2.last_is) in
                    let place_is = done.once two.first two.second p.0 p.1 (q.1 ∙ ap suc (sym same)) in
                    let less = two.less in
                    absurd (omega (arith, place_is, less))
                | inr none ↦ omega (arith, none)
              ] in
              let one : count ts t ≡ 1 = omega (arith, some, few) in
              one ∙ ap (λ b. cond b 1 0) (sym i)
          | inr i ↦ elim (cases_lt 0 (count ts t)) [
            | inl more ↦
                let p = count_place ts t more in
                let x = each_held p.0 t p.1 in
                absurd (both_ways _ i (installs_it c a l v all m k t x.0 x.2))
            | inr none ↦
                let zero_is : count ts t ≡ 0 = omega (arith, none) in
                zero_is ∙ ap (λ b. cond b 1 0) (sym i)
          ]
        ])

  module _ (exact : is_exact ≡ true) where
    count_is : (t : ℕ) → count ts t ≡ cond (installs all k t) 1 0
    count_is =
        counts_from_test (installs all k) ts all
        (λ t i. committed_source all t (and_parts (is_committed all t) (is_some (last_write t k all)) i).0) exact

    installer : (t : ℕ) → 0 < count ts t → installs all k t ≡ true
    installer t more = elim (cases_Bool (installs all k t)) [
      | inl i ↦ i
      | inr i ↦ let none = count_is t ∙ ap (λ b. cond b 1 0) i in absurd (omega (arith, none, more))
    ]

    none_missing : lacks ≡ false
    none_missing = elim (cases_Bool lacks) [
      | inl e ↦
          let x = done.lacking e in
          let one = count_is x.txn ∙ ap (λ b. cond b 1 0) (installs_it c a l v all m k x.txn x.at x.installs) in
          let none = x.missing in
          absurd (omega (arith, one, none))
      | inr e ↦ e
    ]

    none_empty : (p : ℕ) → p < length ws → get_or ws p 0 ≡ 0 → ⊥
    none_empty p less empty =
        let long = done.count in
        let t = get_or ts p 0 in
        let there : slice_get ts p ≡ Some t = slice_get-get_or ts p 0 (omega (arith, less, long)) in
        let i = installer t (count_at ts p t there) in
        let one = count_is t ∙ ap (λ b. cond b 1 0) i in
        let x = has_last c a l v all m k t i in
        let w = done.placed t x.0 x.1 (last_within c a l v all m t k x.0 x.1.last_is) none_missing in
        let holds = w.holds in
        elim (cases_lt p w.place) [
          | inl before ↦ let two = count_twice ts p w.place t there w.writer_is before in omega (arith, one, two)
          | inr rest ↦ elim (cases_lt w.place p) [
            | inl after ↦ let two = count_twice ts w.place p t w.writer_is there after in omega (arith, one, two)
            | inr none ↦
                let same : w.place ≡ p = omega (arith, rest, none) in
                let held_is = ap (λ q. get_or ws q 0) (sym same) ∙ holds in
                omega (arith, empty, held_is)
          ]
        ]

    exact_is_full : is_full ws lacks ≡ true
    exact_is_full =
        and_from _ _ (ap not none_missing)
        (list_all_when (λ w. not (w == 0)) ws
        (λ w there.
        ap not (ne_eqb w 0
        (λ none.
        let at = slice_get-get_or ws there.0 w there.1 in
        let is = get_or_from_slice_get ws there.0 (get_or ws there.0 w) 0 at in
        none_empty there.0 there.1 (is ∙ (there.2 ∙ none))))))

  pub exact_if_full : is_exact ≡ is_full ws lacks
  exact_if_full = elim (cases_Bool (is_full ws lacks)) [
    | inl full ↦ full_is_exact full ∙ sym full
    | inr part ↦ false_from_ne_true _ (λ exact. both_ways _ part (exact_is_full exact)) ∙ sym part
  ]
