-- Lists: what they contain, and what is made of them.
use Rattle.std.specs.List.{AllPairs, Contains, cons_option, filter, filter_map}
use Rattle.std.proofs.Common.{Bool, List, None, Option, Some, [], ap, arith, cond, false, inl, inr, length, refl, subst, suc, take, zero, ℕ, ◌<◌, ◌==◌, ◌∙◌, ◌∷◌, ◌≡◌, ◌⊎◌}
use Rattle.std.proofs.lemmas.Bool.{both_ways, eq-eqb, eqb-true, false_from_ne_true}
use Rattle.lemmas.proofs.Members.{Contains-cases, Contains-cons, Contains-head, none_contained}
use Rattle.adya_values.specs.Meaning.Events.{last}

pub option_cases : {X : Type 0} (o : Option X) → (o ≡ None) ⊎ ((w : X) × (o ≡ Some w))
option_cases None = inl refl
option_cases (Some w) = inr (w, refl)

pub Contains-take : {X : Type 0} (n : ℕ) (xs : List X) (x : X) → Contains (take n xs) x → Contains xs x
Contains-take zero xs x c = absurd (none_contained x c)
Contains-take (suc n) [] x c = absurd (none_contained x c)
Contains-take (suc n) (y ∷ xs) x c =
    elim (Contains-cases y (take n xs) x c) [
      | inl e ↦ subst (Contains (y ∷ xs)) e (Contains-head y xs)
      | inr d ↦ Contains-cons y xs x (Contains-take n xs x d)
    ]

pub filter_map_same : {X Y : Type 0} (f g : X → Option Y) (xs : List X) → ((x : X) → f x ≡ g x)
    → filter_map f xs ≡ filter_map g xs
filter_map_same f g [] h = refl
filter_map_same f g (x ∷ xs) h = ap (λ o. cons_option o (filter_map f xs)) (h x)
    ∙ ap (cons_option (g x)) (filter_map_same f g xs h)

pub take_all : {X : Type 0} (n : ℕ) (xs : List X) → ((length (take n xs) == n) ≡ false) → take n xs ≡ xs
take_all zero xs e = absurd (cc (e))
take_all (suc n) [] e = refl
take_all (suc n) (x ∷ xs) e = ap (λ l. x ∷ l) (take_all n xs (false_from_ne_true (length (take n xs) == n) (λ same.
    both_ways _ e (eq-eqb (suc (length (take n xs))) (suc n) (ap suc (eqb-true (length (take n xs)) n same))))))

last_there : {X : Type 0} (x : X) (xs : List X) → (y : X) × (last (x ∷ xs) ≡ Some y)
last_there x [] = (x, refl)
last_there x (y ∷ ys) = last_there y ys

pub last_of_some : {X : Type 0} (xs : List X) → 0 < length xs → (y : X) × (last xs ≡ Some y)
last_of_some [] l = absurd (omega (arith, l))
last_of_some (x ∷ xs) l = last_there x xs

pub pairs_head : {X : Type 0} (R : X → X → Type 0) (x : X) (xs : List X) (y : X) → AllPairs R (x ∷ xs)
    → Contains xs y → R x y
pairs_head R x xs y a (i, l, f) = subst (R x) f (a 0 (suc i) y (omega arith) (omega (arith, l)))

pub pairs_tail : {X : Type 0} (R : X → X → Type 0) (x : X) (xs : List X) → AllPairs R (x ∷ xs) → AllPairs R xs
pairs_tail R x xs a = λ i j d l m. a (suc i) (suc j) d (omega (arith, l)) (omega (arith, m))

pub filter_within : (f g : ℕ → Bool) (xs : List ℕ) → ((x : ℕ) → Contains xs x → f x ≡ g x) → filter f xs ≡ filter g xs
filter_within f g [] h = refl
filter_within f g (x ∷ xs) h =
    ap (λ b. cond b (x ∷ filter f xs) (filter f xs)) (h x (Contains-head x xs)) ∙
    ap (λ l. cond (g x) (x ∷ l) l) (filter_within f g xs (λ y c. h y (Contains-cons x xs y c)))
