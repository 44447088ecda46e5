-- The open transactions rise.
use Rattle.std.specs.List.{Contains}
use Rattle.std.proofs.Common.{List, [], ap, arith, filter, inl, inr, nat_eq, not, refl, subst, sym, true, ℕ, ◌++◌, ◌+◌, ◌==◌, ◌∙◌, ◌∷◌, ◌≡◌}
use Rattle.std.proofs.lemmas.Bool.{cases_Bool, cond-false, cond-true, eqb-true, false_from_ne_true}
use Rattle.std.proofs.lemmas.List.{map-append}
use Rattle.std.proofs.lemmas.List.Elements.{Contains-append_cases}
use Rattle.indexmap.specs.IndexMap.{insert_entry, shift_remove_entry}
use Rattle.lemmas.proofs.Filters.{filter-source}
use Rattle.lemmas.proofs.Members.{Contains-cons, Contains-head}
use Rattle.adya_values.proofs.RisingNumbers.{only_one, number_below, numbers_rise-filter, numbers_rise-more, numbers_rise-tail}
use Rattle.adya_values.specs.Computing.Shapes.{numbers_rise}
use Rattle.ssi_store.specs.Machinery.Rosters.{txns_in, AreBelow}
use Rattle.ssi_store.proofs.Rosters.{filter_all}

-- a greater number goes to the end
inserted : (es : List (ℕ × ℕ)) (t s : ℕ) → AreBelow t es → insert_entry nat_eq es t s ≡ es ++ (t, s) ∷ []
inserted [] t s below = refl
inserted (e ∷ es) t s below =
    cond-false {A = List (ℕ × ℕ)} (t == e.0) ((e.0, s) ∷ es) (e ∷ insert_entry nat_eq es t s)
    (false_from_ne_true (t == e.0) (λ x.
    (let a = eqb-true t e.0 x in let l = below e.0 (Contains-head e.0 (txns_in es)) in omega (arith, a, l))))
    ∙ ap (λ l. e ∷ l) (inserted es t s (λ u c. below u (Contains-cons e.0 (txns_in es) u c)))

txns_more : (es : List (ℕ × ℕ)) (t s : ℕ) → AreBelow t es → txns_in (insert_entry nat_eq es t s) ≡ txns_in es ++ t ∷ []
txns_more es t s below = ap txns_in (inserted es t s below) ∙ map-append (λ (e : ℕ × ℕ). e.0) es ((t, s) ∷ [])

pub rise_more : (es : List (ℕ × ℕ)) (t s : ℕ) → AreBelow t es → numbers_rise (txns_in es) ≡ true
    → numbers_rise (txns_in (insert_entry nat_eq es t s)) ≡ true
rise_more es t s below rise = subst (λ l. numbers_rise l ≡ true) (sym (txns_more es t s below))
    (numbers_rise-more (txns_in es) t rise below)

pub below_more : (es fs : List (ℕ × ℕ)) (t s : ℕ) → AreBelow t es → fs ≡ insert_entry nat_eq es t s → AreBelow (t + 1) fs
below_more es fs t s below is u c =
    elim (Contains-append_cases (txns_in es) (t ∷ []) u (subst (λ l. Contains l u) (ap txns_in is ∙ txns_more es t s below) c)) [
      | inl old ↦ (let l = below u old in omega (arith, l))
      | inr new ↦ (let e = only_one t u new in omega (arith, e))
    ]

-- of rising numbers the removed one is left out
txns_without : (es : List (ℕ × ℕ)) (t : ℕ) → numbers_rise (txns_in es) ≡ true
    → txns_in (shift_remove_entry (nat_eq t) es) ≡ filter (λ u. not (t == u)) (txns_in es)
txns_without [] t rise = refl
txns_without (e ∷ es) t rise = elim (cases_Bool (t == e.0)) [
  | inl same ↦
      ap txns_in (cond-true {A = List (ℕ × ℕ)} (t == e.0) es (e ∷ shift_remove_entry (nat_eq t) es) same)
      ∙ sym (cond-false {A = List ℕ} (not (t == e.0)) (e.0 ∷ filter (λ u. not (t == u)) (txns_in es))
      (filter (λ u. not (t == u)) (txns_in es)) (ap not same)
      ∙ filter_all (λ u. not (t == u)) (txns_in es) (λ x c. ap not (false_from_ne_true (t == x)
      (λ y. (let less = number_below e.0 (txns_in es) x rise c in let a = eqb-true t e.0 same in
      let b = eqb-true t x y in omega (arith, less, a, b))))))
  | inr other ↦
      ap txns_in (cond-false {A = List (ℕ × ℕ)} (t == e.0) es (e ∷ shift_remove_entry (nat_eq t) es) other)
      ∙ ap (λ l. e.0 ∷ l) (txns_without es t (numbers_rise-tail e.0 (txns_in es) rise))
      ∙ sym (cond-true {A = List ℕ} (not (t == e.0)) (e.0 ∷ filter (λ u. not (t == u)) (txns_in es))
      (filter (λ u. not (t == u)) (txns_in es)) (ap not other))
]

pub rise_without : (es : List (ℕ × ℕ)) (t : ℕ) → numbers_rise (txns_in es) ≡ true
    → numbers_rise (txns_in (shift_remove_entry (nat_eq t) es)) ≡ true
rise_without es t rise = subst (λ l. numbers_rise l ≡ true) (sym (txns_without es t rise))
    (numbers_rise-filter (λ u. not (t == u)) (txns_in es) rise)

pub below_without : (es fs : List (ℕ × ℕ)) (t n : ℕ) → numbers_rise (txns_in es) ≡ true → AreBelow n es
    → fs ≡ shift_remove_entry (nat_eq t) es → AreBelow n fs
below_without es fs t n rise below is u c =
    below u (filter-source (λ x. not (t == x)) (txns_in es) u
    (subst (λ l. Contains l u) (ap txns_in is ∙ txns_without es t rise) c)).0

pub rise_after_begin : (es fs : List (ℕ × ℕ)) (t s : ℕ) → AreBelow t es → numbers_rise (txns_in es) ≡ true
    → fs ≡ insert_entry nat_eq es t s → numbers_rise (txns_in fs) ≡ true
rise_after_begin es fs t s below rise is =
    subst (λ l. numbers_rise (txns_in l) ≡ true) (sym is) (rise_more es t s below rise)

pub rise_after_end : (es fs : List (ℕ × ℕ)) (t : ℕ) → numbers_rise (txns_in es) ≡ true
    → fs ≡ shift_remove_entry (nat_eq t) es → numbers_rise (txns_in fs) ≡ true
rise_after_end es fs t rise is = subst (λ l. numbers_rise (txns_in l) ≡ true) (sym is) (rise_without es t rise)

pub below_same : (n : ℕ) (es fs : List (ℕ × ℕ)) → AreBelow n es → fs ≡ es → AreBelow n fs
below_same n es fs below is = subst (AreBelow n) (sym is) below

pub below_next : (n t : ℕ) (es fs : List (ℕ × ℕ)) → AreBelow n es → t ≡ n → fs ≡ es → AreBelow t fs
below_next n t es fs below same is = subst (λ x. AreBelow x fs) (sym same) (below_same n es fs below is)

pub below_begun : (n t s : ℕ) (es fs gs : List (ℕ × ℕ)) → AreBelow n es → t ≡ n → fs ≡ es → gs ≡ insert_entry nat_eq fs t s
    → AreBelow (n + 1) gs
below_begun n t s es fs gs below same is now = subst (λ x. AreBelow (x + 1) gs) same
    (below_more fs gs t s (below_next n t es fs below same is) now)
