-- A map, as a function from keys to options, that takes a value or loses one; and results that are passed on.
use Rattle.std.proofs.Common.{◌≡◌, Bool, true, false, cond, ◌&&◌, ◌||◌, Option, Result, Ok, Err, OnOk, OnErr, refl, sym, ◌∙◌, ap, inl, inr}
use Rattle.std.proofs.lemmas.Bool.{cases_Bool, cond-true, cond-false}

-- g is f with `new` in place of `old` at k
module _ {K S W : Type 0} (has : Option S → W → Bool) (at : K → Bool) (k : K) (exact : (q : K) → at q ≡ true → k ≡ q)
    (f g : K → Option S) (old new : Option S) (was : f k ≡ old) (put : (q : K) → g q ≡ cond (at q) new (f q)) where
  -- the new value has members that the old one lacks
  pub has_more : (added : W → Bool) → ((w : W) → has new w ≡ (added w || has old w)) → (q : K) (w : W)
      → has (g q) w ≡ ((at q && added w) || has (f q) w)
  has_more added more q w =
      elim (cases_Bool (at q)) [
        | inl here ↦
            ap (λ x. has x w) (put q ∙ cond-true (at q) new (f q) here) ∙
            (more w ∙ (ap (λ x. added w || has x w) (sym was ∙ ap f (exact q here)) ∙
            sym (ap (λ b. (b && added w) || has (f q) w) here)))
        | inr other ↦
            ap (λ x. has x w) (put q ∙ cond-false (at q) new (f q) other) ∙
            sym (ap (λ b. (b && added w) || has (f q) w) other)
      ]

  -- both values have w, or neither has
  pub has_same : (w : W) → has new w ≡ has old w → (q : K) → has (g q) w ≡ has (f q) w
  has_same w same q =
      elim (cases_Bool (at q)) [
        | inl here ↦
            ap (λ x. has x w) (put q ∙ cond-true (at q) new (f q) here) ∙
            (same ∙ ap (λ x. has x w) (sym was ∙ ap f (exact q here)))
        | inr other ↦ ap (λ x. has x w) (put q ∙ cond-false (at q) new (f q) other)
      ]

pub cond_twice : {X : Type 0} (b : Bool) (x y z : X) → cond b x (cond b y z) ≡ cond b x z
cond_twice true x y z = refl
cond_twice false x y z = refl

pub on_err_from : {A E : Type 0} (r : Result A E) (P : Type 0) → P → OnErr r P
on_err_from (Ok a) P p = tt
on_err_from (Err e) P p = p

pub on_ok : {A E : Type 0} (r : Result A E) (P Q : Type 0) → (P → Q) → OnOk r P → OnOk r Q
on_ok (Ok a) P Q f h = f h
on_ok (Err e) P Q f h = h

pub on_err_two : {A E : Type 0} (r : Result A E) (P Q R : Type 0) → (P → Q → R) → OnErr r P → OnErr r Q → OnErr r R
on_err_two (Ok a) P Q R f h k = h
on_err_two (Err e) P Q R f h k = f h k
