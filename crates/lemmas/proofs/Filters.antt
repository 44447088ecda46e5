-- What a filter keeps, and what a list of options that are made of elements has.
use Rattle.std.proofs.Common.{◌≡◌, Bool, true, false, cond, ◌&&◌, List, [], ◌∷◌, Option, Some, None, refl, sym, ◌∙◌, ap, subst, arith, inl, inr}
use Rattle.std.proofs.Math.Bool.{and-true, and-false}
use Rattle.std.specs.List.{filter, filter_map, cons_option, Contains}
use Rattle.std.proofs.lemmas.Bool.{cases_Bool}
use Rattle.lemmas.proofs.Members.{none_contained, Contains-head, Contains-cons, Contains-cases}

pub Contains-filter : {X : Type 0} (p : X → Bool) (xs : List X) (x : X) → Contains xs x → p x ≡ true
    → Contains (filter p xs) x
Contains-filter p [] x c t = c
Contains-filter p (z ∷ xs) x c t =
    elim (Contains-cases z xs x c) [
      | inl e ↦ subst (λ b. Contains (cond b (z ∷ filter p xs) (filter p xs)) x) (sym (ap p e ∙ t)) (0, omega arith, e)
      | inr r ↦
          let rest = Contains-filter p xs x r t in
          elim (p z) as (λ b. Contains (cond b (z ∷ filter p xs) (filter p xs)) x) [
            | true ↦ Contains-cons z (filter p xs) x rest
            | false ↦ rest
          ]
    ]

-- what a filter keeps is in the list and passes
pub filter-source : {X : Type 0} (p : X → Bool) (xs : List X) (x : X) → Contains (filter p xs) x
    → Contains xs x × (p x ≡ true)
filter-source p [] x c = absurd (none_contained x c)
filter-source p (z ∷ xs) x c =
    elim (cases_Bool (p z)) [
      | inl t ↦
          (elim (Contains-cases z (filter p xs) x
          (subst (λ b. Contains (cond b (z ∷ filter p xs) (filter p xs)) x) t c)) [
            | inl e ↦ ((0, omega arith, e), ap p (sym e) ∙ t)
            | inr r ↦ let rest = filter-source p xs x r in (Contains-cons z xs x rest.0, rest.1)
          ])
      | inr f ↦
          let rest = filter-source p xs x (subst (λ b. Contains (cond b (z ∷ filter p xs) (filter p xs)) x) f c) in
          (Contains-cons z xs x rest.0, rest.1)
    ]

pub filter_nothing : {X : Type 0} (p : X → Bool) (xs : List X) → ((x : X) → Contains xs x → p x ≡ false)
    → filter p xs ≡ []
filter_nothing p [] h = refl
filter_nothing p (x ∷ xs) h =
    ap (λ b. cond b (x ∷ filter p xs) (filter p xs)) (h x (Contains-head x xs)) ∙
    filter_nothing p xs (λ y c. h y (Contains-cons x xs y c))

-- both tests, one after the other
pub filter_both : {X : Type 0} (f g : X → Bool) (xs : List X) → filter (λ x. f x && g x) xs ≡ filter f (filter g xs)
filter_both f g [] = refl
filter_both f g (x ∷ xs) =
    elim (cases_Bool (g x)) [
      | inl t ↦
          ap (λ b. cond (f x && b) (x ∷ filter (λ y. f y && g y) xs) (filter (λ y. f y && g y) xs)) t ∙
          (ap (λ b. cond b (x ∷ filter (λ y. f y && g y) xs) (filter (λ y. f y && g y) xs)) (and-true (f x)) ∙
          (ap (λ zs. cond (f x) (x ∷ zs) zs) (filter_both f g xs) ∙
          sym (ap (λ b. filter f (cond b (x ∷ filter g xs) (filter g xs))) t)))
      | inr t ↦
          ap (λ b. cond (f x && b) (x ∷ filter (λ y. f y && g y) xs) (filter (λ y. f y && g y) xs)) t ∙
          (ap (λ b. cond b (x ∷ filter (λ y. f y && g y) xs) (filter (λ y. f y && g y) xs)) (and-false (f x)) ∙
          (filter_both f g xs ∙ sym (ap (λ b. filter f (cond b (x ∷ filter g xs) (filter g xs))) t)))
    ]

pub Contains-cons_option : {Y : Type 0} (o : Option Y) (ys : List Y) (y : Y) → Contains ys y
    → Contains (cons_option o ys) y
Contains-cons_option None ys y c = c
Contains-cons_option (Some x) ys y c = Contains-cons x ys y c

pub Contains-filter_map : {X Y : Type 0} (f : X → Option Y) (xs : List X) (x : X) (y : Y) → Contains xs x → f x ≡ Some y
    → Contains (filter_map f xs) y
Contains-filter_map f [] x y c e = absurd (none_contained x c)
Contains-filter_map f (z ∷ xs) x y c e =
    elim (Contains-cases z xs x c) [
      | inl s ↦ subst (λ o. Contains (cons_option o (filter_map f xs)) y) (sym (ap f s ∙ e))
          (Contains-head y (filter_map f xs))
      | inr r ↦ Contains-cons_option (f z) (filter_map f xs) y (Contains-filter_map f xs x y r e)
    ]

pub cons_option-source : {X Y : Type 0} (f : X → Option Y) (z : X) (xs : List X) (y : Y) (o : Option Y) → f z ≡ o
    → (Contains (filter_map f xs) y → (x : X) × Contains xs x × (f x ≡ Some y))
    → Contains (cons_option o (filter_map f xs)) y → (x : X) × Contains (z ∷ xs) x × (f x ≡ Some y)
cons_option-source f z xs y None made rest c = let r = rest c in (r.0, Contains-cons z xs r.0 r.1, r.2)
cons_option-source f z xs y (Some w) made rest c =
    elim (Contains-cases w (filter_map f xs) y c) [
      | inl s ↦ (z, Contains-head z xs, made ∙ ap Some s)
      | inr d ↦ let r = rest d in (r.0, Contains-cons z xs r.0 r.1, r.2)
    ]

pub filter_map-source : {X Y : Type 0} (f : X → Option Y) (xs : List X) (y : Y) → Contains (filter_map f xs) y
    → (x : X) × Contains xs x × (f x ≡ Some y)
filter_map-source f [] y c = absurd (none_contained y c)
filter_map-source f (z ∷ xs) y c = cons_option-source f z xs y (f z) refl (filter_map-source f xs y) c
