-- A map to places over a store of records, that takes a record or loses one.
use Rattle.std.proofs.Common.{◌≡◌, ◌≢◌, ℕ, ◌==◌, true, true≢false, cond, Option, Some, None, is_some, option_map, refl, sym, ◌∙◌, ap, arith, inl, inr}
use Rattle.std.specs.Ordering.{nat_cmp, is_eq}
use Rattle.std.proofs.lemmas.Bool.{cases_eq, eq-eqb, ne_eqb, cond-true, cond-false}
use Rattle.std.proofs.lemmas.Bool.Decides.{nat_tests}
use Rattle.std.proofs.lemmas.Option.{same_Some, none-some}
use Rattle.ssi_conflict.specs.Machinery.Rows.{Row}
use Rattle.ssi_conflict.specs.Machinery.Slots.{at_slot, AreApart, AreTaken}
use Rattle.ssi_conflict.specs.Machinery.Records.{row_of, Changes}
use Rattle.ssi_conflict.specs.declared.record.Record.{Record}

pub is_eq-nat_cmp : (a b : ℕ) → is_eq (nat_cmp a b) ≡ (a == b)
is_eq-nat_cmp a b = grind (arith, nat_tests)

-- ---- a map that changes at t

module _ (f f' : ℕ → Option ℕ) (t : ℕ) (o : Option ℕ) (put : (q : ℕ) → f' q ≡ cond (is_eq (nat_cmp t q)) o (f q)) where
  pub put_here : f' t ≡ o
  put_here = put t ∙ cond-true _ o (f t) (is_eq-nat_cmp t t ∙ eq-eqb t t refl)

  pub put_other : (x : ℕ) → x ≢ t → f' x ≡ f x
  put_other x ne = put x ∙ cond-false _ o (f x) (is_eq-nat_cmp t x ∙ ne_eqb t x (λ e. ne (sym e)))

-- ---- the places stay apart and taken

module _ (f : ℕ → Option ℕ) (held held' : ℕ → Option Record) (apart : AreApart f) (taken : AreTaken f held) where
  -- what stands in another place
  elsewhere : (i : ℕ) → ((j : ℕ) → j ≢ i → held' j ≡ held j) → (o : Option ℕ) → ((j : ℕ) → o ≡ Some j → j ≢ i)
      → at_slot o held' ≡ at_slot o held
  elsewhere i same None away = refl
  elsewhere i same (Some j) away = same j (away j refl)

  -- the record of t changes in its place
  module _ (t i : ℕ) (at : f t ≡ Some i) (same : (j : ℕ) → j ≢ i → held' j ≡ held j) where
    pub others_stay : (x : ℕ) → x ≢ t → at_slot (f x) held' ≡ at_slot (f x) held
    others_stay x ne = elsewhere i same (f x) (λ j g same'. ne (apart x t i (g ∙ ap Some same') at))

    pub row_set : (g : Row → Row) (r new : Record) → held i ≡ Some r → held' i ≡ Some new → row_of new ≡ g (row_of r)
        → Changes (λ x. option_map row_of (at_slot (f x) held)) (λ x. option_map row_of (at_slot (f x) held')) t
        (option_map g (option_map row_of (at_slot (f t) held)))
    row_set g r new old_at new_at e = record {
      here = ap (λ o. option_map row_of (at_slot o held')) at ∙ (ap (option_map row_of) new_at ∙ (ap Some e ∙
          sym (ap (λ o. option_map g (option_map row_of (at_slot o held))) at ∙ ap
          (λ o. option_map g (option_map row_of o)) old_at)));
      others = λ x ne. ap (option_map row_of) (others_stay x ne);
    }

    -- and goes with its place
    module _ (f' : ℕ → Option ℕ) (gone : (q : ℕ) → f' q ≡ cond (is_eq (nat_cmp t q)) None (f q)) where
      not_gone : (a j : ℕ) → f' a ≡ Some j → a ≢ t
      not_gone a j g e = none-some j (sym (ap f' e ∙ put_here f f' t None gone) ∙ g)

      was : (a j : ℕ) → f' a ≡ Some j → f a ≡ Some j
      was a j g = sym (put_other f f' t None gone a (not_gone a j g)) ∙ g

      pub apart_left : AreApart f'
      apart_left a b j g k = apart a b j (was a j g) (was b j k)

      pub taken_left : AreTaken f' held'
      taken_left a j g = ap is_some (same j (λ e. not_gone a j g (apart a t i (was a j g ∙ ap Some e) at))) ∙ taken a
          j (was a j g)

      pub rows_left : (x : ℕ) → x ≢ t → at_slot (f' x) held' ≡ at_slot (f x) held
      rows_left x ne = ap (λ o. at_slot o held') (put_other f f' t None gone x ne) ∙ others_stay x ne

  -- t gets a record in a new place
  module _ (t i : ℕ) (vacant : held i ≡ None) (same : (j : ℕ) → j ≢ i → held' j ≡ held j)
      (f' : ℕ → Option ℕ) (put : (q : ℕ) → f' q ≡ cond (is_eq (nat_cmp t q)) (Some i) (f q)) where
    fresh : (a j : ℕ) → f a ≡ Some j → j ≢ i
    fresh a j g e = true≢false (sym (taken a j g) ∙ ap is_some (ap held e ∙ vacant))

    before : (a j : ℕ) → a ≢ t → f' a ≡ Some j → f a ≡ Some j
    before a j ne g = sym (put_other f f' t (Some i) put a ne) ∙ g

    own : (a j : ℕ) → a ≡ t → f' a ≡ Some j → j ≡ i
    own a j e g = sym (same_Some i j (sym (put_here f f' t (Some i) put) ∙ (ap f' (sym e) ∙ g)))

    pub apart_added : AreApart f'
    apart_added a b j g k = elim (cases_eq a t) [
      | inl e ↦ elim (cases_eq b t) [
        | inl e' ↦ e ∙ sym e'
        | inr ne ↦ absurd
            (fresh b j (before b j ne k) (own a j e g))
      ]
      | inr ne ↦ elim (cases_eq b t) [
        | inl e' ↦ absurd (fresh a j (before a j ne g) (own b j e' k))
        | inr ne' ↦ apart
            a b j (before a j ne g) (before b j ne' k)
      ]
    ]

    pub taken_added : is_some (held' i) ≡ true → AreTaken f' held'
    taken_added there a j g = elim (cases_eq a t) [
      | inl e ↦ ap (λ y. is_some (held' y)) (own a j e g) ∙ there
      | inr ne ↦ ap is_some (same j (fresh a j (before a j ne g))) ∙ taken a j (before a j ne g)
    ]

    pub rows_added : (x : ℕ) → x ≢ t → at_slot (f' x) held' ≡ at_slot (f x) held
    rows_added x ne =
        ap (λ o. at_slot o held') (put_other f f' t (Some i) put x ne) ∙ elsewhere i same (f x) (λ j g. fresh x j g)

there : (o : Option Record) → is_some (option_map row_of o) ≡ is_some o
there None = refl
there (Some r) = refl

-- there is a row exactly if there is a place
pub row_taken : (f : ℕ → Option ℕ) (held : ℕ → Option Record) → AreTaken f held → (t : ℕ)
    → is_some (option_map row_of (at_slot (f t) held)) ≡ is_some (f t)
row_taken f held taken t = by_slot (f t) refl
  where
    by_slot : (o : Option ℕ) → f t ≡ o → is_some (option_map row_of (at_slot o held)) ≡ is_some o
    by_slot None e = refl
    by_slot (Some i) e = there (held i) ∙ taken t i e
