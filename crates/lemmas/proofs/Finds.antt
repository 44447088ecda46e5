-- The first element of a list that passes a test.
use Rattle.std.proofs.Common.{◌≡◌, Bool, true, false, cond, ◌&&◌, List, [], ◌∷◌, ◌++◌, Some, None, refl, sym, ◌∙◌, ap, subst, arith, inl, inr}
use Rattle.std.proofs.Math.Bool.{and-true, and-false}
use Rattle.std.specs.List.{filter, find, Contains}
use Rattle.std.proofs.lemmas.Bool.{cases_Bool}
use Rattle.std.proofs.lemmas.Option.{none-some, same_Some}
use Rattle.lemmas.proofs.Members.{none_contained, Contains-head, Contains-cons, Contains-cases}

-- nothing found: each element fails the test
pub find_none : {X : Type 0} (p : X → Bool) (xs : List X) (x : X) → find p xs ≡ None → Contains xs x → p x ≡ false
find_none p [] x f c = absurd (none_contained x c)
find_none p (y ∷ xs) x f c =
    elim (cases_Bool (p y)) [
      | inl t ↦ absurd (none-some y (sym (subst (λ b. cond b (Some y) (find p xs) ≡ None) t f)))
      | inr t ↦
          (elim (Contains-cases y xs x c) [
            | inl e ↦ ap p (sym e) ∙ t
            | inr r ↦ find_none p xs x (subst (λ b. cond b (Some y) (find p xs) ≡ None) t f) r
          ])
    ]

pub none_found : {X : Type 0} (p : X → Bool) (xs : List X) → ((x : X) → Contains xs x → p x ≡ false) → find p xs ≡ None
none_found p [] h = refl
none_found p (x ∷ xs) h =
    ap (λ b. cond b (Some x) (find p xs)) (h x (Contains-head x xs)) ∙
    none_found p xs (λ y c. h y (Contains-cons x xs y c))

-- the first element that passes, those before it, and those after it
pub record IsFoundAt {X : Type 0} (p : X → Bool) (xs : List X) (x : X) : Type 0 where
  pub front : List X
  pub back : List X
  pub splits : xs ≡ front ++ x ∷ back
  pub passes : p x ≡ true
  pub fail : (y : X) → Contains front y → p y ≡ false

pub find-splits : {X : Type 0} (p : X → Bool) (xs : List X) (x : X) → find p xs ≡ Some x → IsFoundAt p xs x
find-splits p [] x e = absurd (none-some x e)
find-splits p (y ∷ xs) x e =
    elim (cases_Bool (p y)) [
      | inl t ↦
          let same = same_Some y x (subst (λ b. cond b (Some y) (find p xs) ≡ Some x) t e) in
          record {
            front = [];
            back = xs;
            splits = ap (λ z. z ∷ xs) same;
            passes = ap p (sym same) ∙ t;
            fail = λ z c. absurd (none_contained z c);
          }
      | inr f ↦
          let rest = find-splits p xs x (subst (λ b. cond b (Some y) (find p xs) ≡ Some x) f e) in
          record {
            front = y ∷ rest.front;
            back = rest.back;
            splits = ap (λ zs. y ∷ zs) rest.splits;
            passes = rest.passes;
            fail = λ z c. elim (Contains-cases y rest.front z c) [
              | inl s ↦ ap p (sym s) ∙ f
              | inr r ↦ rest.fail z r
            ];
          }
    ]

pub find-after : {X : Type 0} (p : X → Bool) (front : List X) (x : X) (back : List X) → p x ≡ true
    → ((y : X) → Contains front y → p y ≡ false) → find p (front ++ x ∷ back) ≡ Some x
find-after p [] x back t fail = ap (λ b. cond b (Some x) (find p back)) t
find-after p (y ∷ front) x back t fail =
    ap (λ b. cond b (Some y) (find p (front ++ x ∷ back))) (fail y (Contains-head y front)) ∙
    find-after p front x back t (λ z c. fail z (Contains-cons y front z c))

-- what is found is in the list and passes
pub find-source : {X : Type 0} (p : X → Bool) (xs : List X) (x : X) → find p xs ≡ Some x
    → Contains xs x × (p x ≡ true)
find-source p [] x e = absurd (none-some x e)
find-source p (y ∷ xs) x e =
    elim (cases_Bool (p y)) [
      | inl t ↦
          let same : y ≡ x = same_Some y x (subst (λ b. cond b (Some y) (find p xs) ≡ Some x) t e) in
          ((0, omega arith, same), ap p (sym same) ∙ t)
      | inr f ↦
          let rest = find-source p xs x (subst (λ b. cond b (Some y) (find p xs) ≡ Some x) f e) in
          (Contains-cons y xs x rest.0, rest.1)
    ]

-- if an element passes, one is found
pub find_when : {X : Type 0} (p : X → Bool) (xs : List X) (x : X) → Contains xs x → p x ≡ true
    → (y : X) × (find p xs ≡ Some y)
find_when p [] x c t = absurd (none_contained x c)
find_when p (y ∷ xs) x c t =
    elim (cases_Bool (p y)) [
      | inl s ↦ (y, ap (λ b. cond b (Some y) (find p xs)) s)
      | inr f ↦
          (elim (Contains-cases y xs x c) [
            | inl e ↦ (y, ap (λ b. cond b (Some y) (find p xs)) (ap p e ∙ t))
            | inr r ↦
                let rest = find_when p xs x r t in
                (rest.0, ap (λ b. cond b (Some y) (find p xs)) f ∙ rest.1)
          ])
    ]

-- two tests that agree find the same
pub find_agree : {X : Type 0} (f g : X → Bool) (xs : List X) → ((x : X) → f x ≡ g x) → find f xs ≡ find g xs
find_agree f g [] same = refl
find_agree f g (x ∷ xs) same =
    ap (λ b. cond b (Some x) (find f xs)) (same x) ∙ ap (λ o. cond (g x) (Some x) o) (find_agree f g xs same)

-- both tests, one after the other
pub find_both : {X : Type 0} (f g : X → Bool) (xs : List X) → find (λ x. f x && g x) xs ≡ find f (filter g xs)
find_both f g [] = refl
find_both f g (x ∷ xs) =
    elim (cases_Bool (g x)) [
      | inl t ↦
          ap (λ b. cond (f x && b) (Some x) (find (λ y. f y && g y) xs)) t ∙
          (ap (λ b. cond b (Some x) (find (λ y. f y && g y) xs)) (and-true (f x)) ∙
          (ap (λ o. cond (f x) (Some x) o) (find_both f g xs) ∙
          sym (ap (λ b. find f (cond b (x ∷ filter g xs) (filter g xs))) t)))
      | inr t ↦
          ap (λ b. cond (f x && b) (Some x) (find (λ y. f y && g y) xs)) t ∙
          (ap (λ b. cond b (Some x) (find (λ y. f y && g y) xs)) (and-false (f x)) ∙
          (find_both f g xs ∙ sym (ap (λ b. find f (cond b (x ∷ filter g xs) (filter g xs))) t)))
    ]
