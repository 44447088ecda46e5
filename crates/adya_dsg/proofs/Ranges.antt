-- The places that a selection depends on, by the places where the matches change.
use Rattle.std.proofs.Common.{◌≡◌, ℕ, zero, suc, ◌+◌, ◌==◌, ◌<◌, ◌≤◌, Bool, true, false, cond, ◌&&◌, ◌||◌, nat_lt, List, [], ◌∷◌, ◌++◌, Some, None, filter, find, flat_map, refl, sym, ◌∙◌, ap, arith, inl, inr, append-nil, append_assoc}
use Rattle.std.proofs.lemmas.Bool.{cases_eq, eq-eqb, ne_eqb, lt-ltb, le-ltb}
use Rattle.std.proofs.Math.Bool.{or-true, or-false}
use Rattle.lemmas.proofs.Filters.{filter_both}
use Rattle.adya_values.specs.Computing.EdgeList.{numbers}

-- two tests that agree on the numbers keep the same
filter_same_from : (f g : ℕ → Bool) (a n : ℕ) → ((q : ℕ) → a ≤ q → f q ≡ g q)
    → filter f (numbers a n) ≡ filter g (numbers a n)
filter_same_from f g a zero same = refl
filter_same_from f g a (suc n) same =
    ap (λ b. cond b (a ∷ filter f (numbers (suc a) n)) (filter f (numbers (suc a) n))) (same a (omega arith)) ∙
    ap (λ zs. cond (g a) (a ∷ zs) zs) (filter_same_from f g (suc a) n (λ q l. same q (omega (arith, l))))

-- what fails is left out
left_out : (f : ℕ → Bool) (b : Bool) (a : ℕ) (xs : List ℕ) → f a ≡ false
    → filter f (cond b (a ∷ xs) xs) ≡ filter f xs
left_out f true a xs e = ap (λ z. cond z (a ∷ filter f xs) (filter f xs)) e
left_out f false a xs e = refl

-- the first number that passes is p, if those before it fail
pub find_at_place : (test : ℕ → Bool) (p a n : ℕ) → a ≤ p → p < a + n → ((q : ℕ) → q < p → test q ≡ false)
    → test p ≡ true → find test (numbers a n) ≡ Some p
find_at_place test p a zero l m before here = absurd (omega (arith, l, m))
find_at_place test p a (suc n) l m before here =
    elim (cases_eq a p) [
      | inl e ↦ ap (λ b. cond b (Some a) (find test (numbers (suc a) n))) (ap test e ∙ here) ∙ ap Some e
      | inr ne ↦
          ap (λ b. cond b (Some a) (find test (numbers (suc a) n))) (before a (omega (arith, l, ne))) ∙
          find_at_place test p (suc a) n (omega (arith, l, ne)) (omega (arith, m)) before here
    ]

-- none of them passes
pub find_nowhere : (test : ℕ → Bool) (a n : ℕ) → ((q : ℕ) → q < a + n → test q ≡ false)
    → find test (numbers a n) ≡ None
find_nowhere test a zero none = refl
find_nowhere test a (suc n) none =
    ap (λ b. cond b (Some a) (find test (numbers (suc a) n))) (none a (omega arith)) ∙
    find_nowhere test (suc a) n (λ q l. none q (omega (arith, l)))

pub none_pass : (test : ℕ → Bool) (a n : ℕ) → ((q : ℕ) → a ≤ q → test q ≡ false) → filter test (numbers a n) ≡ []
none_pass test a zero none = refl
none_pass test a (suc n) none =
    ap (λ b. cond b (a ∷ filter test (numbers (suc a) n)) (filter test (numbers (suc a) n))) (none a (omega arith)) ∙
    none_pass test (suc a) n (λ q l. none q (omega (arith, l)))

-- one place alone
pub one_place : {X : Type 0} (g : ℕ → List X) (test : ℕ → Bool) (p a n : ℕ) → ((q : ℕ) → test q ≡ (q == p)) → a ≤ p
    → (a + n ≤ p → g p ≡ []) → flat_map g (filter test (numbers a n)) ≡ g p
one_place g test p a zero same l none = sym (none (omega (arith, l)))
one_place g test p a (suc n) same l none =
    let rest = filter test (numbers (suc a) n) in
    elim (cases_eq a p) [
      | inl e ↦
          ap (λ b. flat_map g (cond b (a ∷ rest) rest)) (same a ∙ eq-eqb a p e) ∙
          (ap (λ zs. g a ++ flat_map g zs)
          (none_pass test (suc a) n (λ q m. same q ∙ ne_eqb q p (λ s. omega (arith, m, e, s)))) ∙
          (append-nil (g a) ∙ ap g e))
      | inr ne ↦
          ap (λ b. flat_map g (cond b (a ∷ rest) rest)) (same a ∙ ne_eqb a p ne) ∙
          one_place g test p (suc a) n same (omega (arith, l, ne)) (λ m. none (omega (arith, m)))
    ]

module _ {X : Type 0} (g : ℕ → List X) (c : ℕ → Bool) (p : ℕ) where
  -- p, and what passes before it
  abbrev up_to : ℕ → Bool
  up_to q = (q == p) || (nat_lt q p && c q)

  abbrev before : ℕ → ℕ → List X
  before a n = flat_map g (filter (λ q. nat_lt q p) (filter c (numbers a n)))

  nothing_before : (a n : ℕ) → p ≤ a → before a n ≡ []
  nothing_before a n l =
      ap (flat_map g)
      (sym (filter_both (λ q. nat_lt q p) c (numbers a n)) ∙
      none_pass (λ q. nat_lt q p && c q) a n (λ q m. ap (λ b. b && c q) (le-ltb q p (omega (arith, l, m)))))

  past : (q : ℕ) → p < q → up_to q ≡ false
  past q l =
      ap (λ b. b || (nat_lt q p && c q)) (ne_eqb q p (λ e. omega (arith, l, e))) ∙
      ap (λ b. b && c q) (le-ltb q p (omega (arith, l)))

  pub sources_from : (a n : ℕ) → a ≤ p → (a + n ≤ p → g p ≡ [])
      → flat_map g (filter up_to (numbers a n)) ≡ before a n ++ g p
  sources_from a zero l none = sym (none (omega (arith, l)))
  sources_from a (suc n) l none =
      let rest = filter up_to (numbers (suc a) n) in
      let cs = filter c (numbers (suc a) n) in
      elim (cases_eq a p) [
        | inl e ↦
            let here : up_to a ≡ true = ap (λ b. b || (nat_lt a p && c a)) (eq-eqb a p e) in
            let after : rest ≡ [] = none_pass up_to (suc a) n (λ q m. past q (omega (arith, m, e))) in
            ap (λ b. flat_map g (cond b (a ∷ rest) rest)) here ∙
            (ap (λ zs. g a ++ flat_map g zs) after ∙
            (append-nil (g a) ∙
            (ap g e ∙ ap (λ zs. zs ++ g p) (sym (nothing_before a (suc n) (omega (arith, e)))))))
        | inr ne ↦
            let less : nat_lt a p ≡ true = lt-ltb a p (omega (arith, l, ne)) in
            let here : up_to a ≡ c a = ap (λ b. b || (nat_lt a p && c a)) (ne_eqb a p ne) ∙ ap (λ b. b && c a) less in
            let more = sources_from (suc a) n (omega (arith, l, ne)) (λ m. none (omega (arith, m))) in
            ap (λ b. flat_map g (cond b (a ∷ rest) rest)) here ∙ by_case a (c a) rest cs less more
      ]
    where
      by_case : (a : ℕ) (b : Bool) (rest cs : List ℕ) → nat_lt a p ≡ true
          → flat_map g rest ≡ flat_map g (filter (λ q. nat_lt q p) cs) ++ g p
          → flat_map g (cond b (a ∷ rest) rest) ≡ flat_map g (filter (λ q. nat_lt q p) (cond b (a ∷ cs) cs)) ++ g p
      by_case a true rest cs less more =
          let kept = filter (λ q. nat_lt q p) cs in
          ap (λ zs. g a ++ zs) more ∙
          (sym (append_assoc (g a) (flat_map g kept) (g p)) ∙
          ap (λ z. flat_map g (cond z (a ∷ kept) kept) ++ g p) (sym less))
      by_case a false rest cs less more = more

  -- the next place, and what passes after it
  abbrev next_and_on : ℕ → Bool
  next_and_on q = nat_lt p q && (c q || (q == suc p))

  abbrev after : ℕ → ℕ → List X
  after a n = flat_map g (filter (λ q. nat_lt (suc p) q) (filter c (numbers a n)))

  on : (q : ℕ) → suc p < q → next_and_on q ≡ (nat_lt (suc p) q && c q)
  on q l =
      ap (λ b. b && (c q || (q == suc p))) (lt-ltb p q (omega (arith, l))) ∙
      (ap (λ b. c q || b) (ne_eqb q (suc p) (λ e. omega (arith, l, e))) ∙
      (or-false (c q) ∙ ap (λ b. b && c q) (sym (lt-ltb (suc p) q l))))

  pub overwriters_from : (a n : ℕ) → a ≤ suc p → (a + n ≤ suc p → g (suc p) ≡ [])
      → flat_map g (filter next_and_on (numbers a n)) ≡ g (suc p) ++ after a n
  overwriters_from a zero l none = sym (append-nil (g (suc p)) ∙ none (omega (arith, l)))
  overwriters_from a (suc n) l none =
      let rest = filter next_and_on (numbers (suc a) n) in
      let cs = filter c (numbers (suc a) n) in
      let out : nat_lt (suc p) a ≡ false = le-ltb (suc p) a l in
      let left = ap (λ zs. g (suc p) ++ flat_map g zs) (left_out (λ q. nat_lt (suc p) q) (c a) a cs out) in
      elim (cases_eq a (suc p)) [
        | inl e ↦
            let here : next_and_on a ≡ true =
            ap (λ b. b && (c a || (a == suc p))) (lt-ltb p a (omega (arith, e))) ∙
            (ap (λ b. c a || b) (eq-eqb a (suc p) e) ∙ or-true (c a)) in
            let same : rest ≡ filter (λ q. nat_lt (suc p) q) cs =
            filter_same_from next_and_on (λ q. nat_lt (suc p) q && c q) (suc a) n (λ q m. on q (omega (arith, m, e))) ∙
            filter_both (λ q. nat_lt (suc p) q) c (numbers (suc a) n) in
            ap (λ b. flat_map g (cond b (a ∷ rest) rest)) here ∙
            (ap (λ zs. g a ++ flat_map g zs) same ∙
            (ap (λ x. g x ++ flat_map g (filter (λ q. nat_lt (suc p) q) cs)) e ∙ sym left))
        | inr ne ↦
            let here : next_and_on a ≡ false =
            ap (λ b. b && (c a || (a == suc p))) (le-ltb p a (omega (arith, l, ne))) in
            ap (λ b. flat_map g (cond b (a ∷ rest) rest)) here ∙
            (overwriters_from (suc a) n (omega (arith, l, ne)) (λ m. none (omega (arith, m))) ∙ sym left)
      ]
