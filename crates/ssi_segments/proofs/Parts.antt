-- A list of transactions in two parts: those that pass a test, and then the others.
use Rattle.std.proofs.Common.{◌≡◌, ◌≢◌, ℕ, suc, ◌+◌, ◌==◌, ◌<◌, ◌⊎◌, Bool, true, false, cond, List, [], ◌∷◌, ◌++◌, length, refl, sym, ◌∙◌, ap, arith, inl, inr}
use Rattle.std.specs.Prelude.{filter}
use Rattle.std.proofs.lemmas.Bool.{cases_Bool, eq-eqb, eqb-true, both_ways}
use Rattle.lemmas.proofs.Counts.{count, count-cons, count_same, count_other}
use Rattle.adya_values.specs.Meaning.Orders.{place}
use Rattle.adya_values.proofs.Places.{place_same, place_other}

module _ (p : ℕ → Bool) where
  kept : (x : ℕ) (xs : List ℕ) (b : Bool) → p x ≡ b → filter p (x ∷ xs) ≡ cond b (x ∷ filter p xs) (filter p xs)
  kept x xs b e = ap (λ c. cond c (x ∷ filter p xs) (filter p xs)) e

  -- those that pass stand there as often as before
  pub filter_counts : (xs : List ℕ) (t : ℕ) (b : Bool) → p t ≡ b → count (filter p xs) t ≡ cond b (count xs t) 0
  filter_counts [] t true e = refl
  filter_counts [] t false e = refl
  filter_counts (x ∷ xs) t true e =
      let rest = filter_counts xs t true e in
      elim (cases_Bool (p x)) [
        | inl holds ↦
            let one = count-cons x (filter p xs) t in
            let all = count-cons x xs t in
            ap (λ l. count l t) (kept x xs true holds)
            ∙ (let same : count (x ∷ filter p xs) t ≡ count (x ∷ xs) t = omega (arith, one, all, rest) in same)
        | inr fails ↦
            let other = count_other x xs t (λ same. both_ways (p x) fails (ap p same ∙ e)) in
            ap (λ l. count l t) (kept x xs false fails) ∙ rest ∙ sym other
      ]
  filter_counts (x ∷ xs) t false e =
      let rest = filter_counts xs t false e in
      elim (cases_Bool (p x)) [
        | inl holds ↦
            let other = count_other x (filter p xs) t (λ same. both_ways (p x) (ap p same ∙ e) holds) in
            ap (λ l. count l t) (kept x xs true holds) ∙ other ∙ rest
        | inr fails ↦ ap (λ l. count l t) (kept x xs false fails) ∙ rest
      ]

  -- and in the order in which they stood
  pub filter_places : (xs : List ℕ) (a b : ℕ) → p a ≡ true → p b ≡ true → place xs a < place xs b
      → place (filter p xs) a < place (filter p xs) b
  filter_places [] a b pa pb l = absurd (omega (arith, l))
  filter_places (x ∷ xs) a b pa pb l =
      by_first (λ less. filter_places xs a b pa pb less) (cases_Bool (x == a)) (cases_Bool (x == b)) (cases_Bool (p x))
    where
      not_b : (x == b) ≡ true → ⊥
      not_b same = let none = place_same x xs b (eqb-true x b same) in omega (arith, none, l)

      apart : (y : ℕ) → (x == y) ≡ false → x ≢ y
      apart y other = λ e. both_ways (x == y) other (eq-eqb x y e)

      by_first : (place xs a < place xs b → place (filter p xs) a < place (filter p xs) b)
          → ((x == a) ≡ true) ⊎ ((x == a) ≡ false) → ((x == b) ≡ true) ⊎ ((x == b) ≡ false)
          → (p x ≡ true) ⊎ (p x ≡ false) → place (filter p (x ∷ xs)) a < place (filter p (x ∷ xs)) b
      by_first rest of_a (inl of_b) of_p = absurd (not_b of_b)
      by_first rest (inl is_a) (inr not_b) of_p =
          let same = eqb-true x a is_a in
          let here = place_same x (filter p xs) a same in
          let later = place_other x (filter p xs) b (apart b not_b) in
          let now = ap (λ l. place l a) (kept x xs true (ap p same ∙ pa)) in
          let then = ap (λ l. place l b) (kept x xs true (ap p same ∙ pa)) in
          omega (arith, here, later, now, then)
      by_first rest (inr not_a) (inr not_b) (inl holds) =
          let one = place_other x xs a (apart a not_a) in
          let two = place_other x xs b (apart b not_b) in
          let before = rest (omega (arith, l, one, two)) in
          let three = place_other x (filter p xs) a (apart a not_a) in
          let four = place_other x (filter p xs) b (apart b not_b) in
          let now = ap (λ l. place l a) (kept x xs true holds) in
          let then = ap (λ l. place l b) (kept x xs true holds) in
          omega (arith, before, three, four, now, then)
      by_first rest (inr not_a) (inr not_b) (inr fails) =
          let one = place_other x xs a (apart a not_a) in
          let two = place_other x xs b (apart b not_b) in
          let before = rest (omega (arith, l, one, two)) in
          let now = ap (λ l. place l a) (kept x xs false fails) in
          let then = ap (λ l. place l b) (kept x xs false fails) in
          omega (arith, before, now, then)

-- ---- one list after another

pub place_first : (xs ys : List ℕ) (t : ℕ) → 0 < count xs t → place (xs ++ ys) t ≡ place xs t
place_first [] ys t l = absurd (omega (arith, l))
place_first (x ∷ xs) ys t l =
    elim (cases_Bool (x == t)) [
      | inl same ↦ place_same x (xs ++ ys) t (eqb-true x t same) ∙ sym (place_same x xs t (eqb-true x t same))
      | inr other ↦
          let ne : x ≢ t = λ e. both_ways (x == t) other (eq-eqb x t e) in
          let less = count_other x xs t ne in
          place_other x (xs ++ ys) t ne ∙ ap suc (place_first xs ys t (omega (arith, l, less)))
          ∙ sym (place_other x xs t ne)
    ]

pub place_second : (xs ys : List ℕ) (t : ℕ) → count xs t ≡ 0 → place (xs ++ ys) t ≡ length xs + place ys t
place_second [] ys t e = omega arith
place_second (x ∷ xs) ys t e =
    elim (cases_Bool (x == t)) [
      | inl same ↦ absurd (let more = count_same x xs t (eqb-true x t same) in omega (arith, e, more))
      | inr other ↦
          let ne : x ≢ t = λ e. both_ways (x == t) other (eq-eqb x t e) in
          let less = count_other x xs t ne in
          let here = place_other x (xs ++ ys) t ne in
          let rest = place_second xs ys t (sym less ∙ e) in
          omega (arith, here, rest)
    ]
