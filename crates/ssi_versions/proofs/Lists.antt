-- Lists and tests.
use Rattle.std.proofs.Common.{◌≡◌, ◌⊎◌, inl, inr, zero, suc, ℕ, ◌<◌, ◌+◌, Bool, true, false, cond, ◌||◌, List, [], ◌∷◌, ◌++◌, length, take, drop, get_or, refl, ◌∙◌, ap, sym, subst, arith, nat_lt, nat_le, nat_eq}
use Rattle.std.specs.List.{filter, list_all, list_any, AllWithin, AllPairs, Contains}
use Rattle.lemmas.proofs.Members.{Contains-cons, Contains-head}
use Rattle.std.proofs.lemmas.List.Elements.{AllWithin-more}
use Rattle.adya_keys.specs.Meaning.Keys.{is_key, is_key_byte}
use Rattle.std.proofs.lemmas.Bool.{and_parts, and_from, lt-ltb, ltb-true, le-ltb, leb-true, leb-false, lt-leb, ne_eqb}
use Rattle.std.proofs.lemmas.List.{drop_more, take-append-drop, get_or_default}

pub all-push : {X : Type 0} (p : X → Bool) (xs : List X) (x : X) → list_all p xs ≡ true → p x ≡ true → list_all p (xs ++ x ∷ []) ≡ true
all-push p [] x h g = and_from (p x) true g refl
all-push p (y ∷ ys) x h g = and_from (p y) (list_all p (ys ++ x ∷ [])) (and_parts (p y) (list_all p ys) h).0 (all-push p ys x (and_parts (p y) (list_all p ys) h).1 g)

pub all_weaker : {X : Type 0} (p q : X → Bool) (xs : List X) → ((x : X) → p x ≡ true → q x ≡ true) → list_all p xs ≡ true → list_all q xs ≡ true
all_weaker p q [] f h = refl
all_weaker p q (x ∷ xs) f h =
    and_from (q x) (list_all q xs) (f x (and_parts (p x) (list_all p xs) h).0) (all_weaker p q xs f (and_parts (p x) (list_all p xs) h).1)

pub any_agree : {X : Type 0} (p q : X → Bool) (xs : List X) → ((x : X) → p x ≡ q x) → list_any p xs ≡ list_any q xs
any_agree p q [] f = refl
any_agree p q (x ∷ xs) f = ap (λ b. b || list_any p xs) (f x) ∙ ap (λ b. q x || b) (any_agree p q xs f)

-- two filters that agree where a third test passes
pub filter_agree_on : {X : Type 0} (r p q : X → Bool) (xs : List X) → list_all r xs ≡ true → ((x : X) → r x ≡ true → p x ≡ q x) → filter p xs ≡ filter q xs
filter_agree_on r p q [] h f = refl
filter_agree_on r p q (x ∷ xs) h f =
    ap (λ b. cond b (x ∷ filter p xs) (filter p xs)) (f x (and_parts (r x) (list_all r xs) h).0)
    ∙ ap (λ ys. cond (q x) (x ∷ ys) ys) (filter_agree_on r p q xs (and_parts (r x) (list_all r xs) h).1 f)

pub split : {X : Type 0} (xs : List X) (i : ℕ) (x : X) → i < length xs → x ≡ get_or xs i x → xs ≡ take i xs ++ x ∷ drop (i + 1) xs
split xs i x h is = sym (take-append-drop i xs) ∙ ap (λ ys. take i xs ++ ys) (drop_more xs i x h ∙ ap (λ y. y ∷ drop (i + 1) xs) (sym is))

pub append_cases : {X : Type 0} (xs ys : List X) (x : X) → Contains (xs ++ ys) x → Contains xs x ⊎ Contains ys x
append_cases [] ys x c = inr c
append_cases (y ∷ xs) ys x (zero, l, f) = inl (zero, omega arith, f)
append_cases (y ∷ xs) ys x (suc i, l, f) =
    elim (append_cases xs ys x (i, omega (arith, l), f)) [ inl c ↦ inl (Contains-cons y xs x c) | inr c ↦ inr c ]

pub only_one : {X : Type 0} (y x : X) → Contains (y ∷ []) x → y ≡ x
only_one y x (zero, l, f) = f
only_one y x (suc i, l, f) = absurd (omega (arith, l))

pub any_same : {X : Type 0} (f g : X → Bool) (xs : List X) → ((x : X) → Contains xs x → f x ≡ g x) → list_any f xs ≡ list_any g xs
any_same f g [] h = refl
any_same f g (x ∷ xs) h = ap (λ b. b || list_any f xs) (h x (Contains-head x xs)) ∙ ap (λ b. g x || b) (any_same f g xs (λ y c. h y (Contains-cons x xs y c)))

pub pairs_head : {X : Type 0} (R : X → X → Type 0) (x : X) (xs : List X) (y : X) → AllPairs R (x ∷ xs) → Contains xs y → R x y
pairs_head R x xs y a (i, l, f) = subst (R x) f (a 0 (suc i) y (omega arith) (omega (arith, l)))

pub pairs_tail : {X : Type 0} (R : X → X → Type 0) (x : X) (xs : List X) → AllPairs R (x ∷ xs) → AllPairs R xs
pairs_tail R x xs a = λ i j d l m. a (suc i) (suc j) d (omega (arith, l)) (omega (arith, m))

-- tests of numbers
pub lt_apart : (n m : ℕ) → nat_lt n m ≡ true → nat_eq m n ≡ false
lt_apart n m h = ne_eqb m n (λ e. omega (arith, ltb-true n m h, e))

pub lt_apart_back : (n m : ℕ) → nat_lt n m ≡ true → nat_eq n m ≡ false
lt_apart_back n m h = ne_eqb n m (λ e. omega (arith, ltb-true n m h, e))

pub lt_trans : (a b c : ℕ) → nat_lt a b ≡ true → nat_lt b c ≡ true → nat_lt a c ≡ true
lt_trans a b c g h = lt-ltb a c (omega (arith, ltb-true a b g, ltb-true b c h))

pub le_not_lt : (a b : ℕ) → nat_le a b ≡ true → nat_lt b a ≡ false
le_not_lt a b h = le-ltb b a (leb-true a b h)

pub not_le_lt : (a b : ℕ) → nat_le a b ≡ false → nat_lt b a ≡ true
not_le_lt a b h = lt-ltb b a (leb-false a b h)

pub lt_not_le : (a b : ℕ) → nat_lt a b ≡ true → nat_le b a ≡ false
lt_not_le a b h = lt-leb b a (ltb-true a b h)

pub letter : is_key (97 ∷ []) ≡ true
unfolding is_key_byte
letter = refl

pub within_more : {X : Type 0} (P Q : X → Type 0) (xs : List X) (i : ℕ) (x : X) → i < length xs → x ≡ get_or xs i x → ((y : X) → P y → Q y) → AllWithin P xs 0 i → Q x → AllWithin Q xs 0 (i + 1)
within_more P Q xs i x h is keeps before here =
    AllWithin-more Q xs 0 i (λ k d low high. keeps (get_or xs k d) (before k d low high)) (λ d. subst Q (is ∙ get_or_default xs i x d h) here)
