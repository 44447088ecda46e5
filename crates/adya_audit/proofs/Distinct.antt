-- The steps of the loop that takes the numbers of a list into a set, and stops if one repeats.
use Rattle.std.proofs.Common.{◌≡◌, ℕ, ◌+◌, ◌==◌, ◌<◌, Bool, true, false, cond, List, ◌∷◌, length, drop, get_or, nat_cmp, is_eq, sym, ◌∙◌, ap, arith, inl, inr}
use Rattle.std.specs.Cmp.{unsigned_ties}
use Rattle.std.proofs.lemmas.Bool.{cases_eq, eq-eqb, ne_eqb}
use Rattle.lemmas.proofs.Counts.{count, count-cons}
use Rattle.lemmas.proofs.Steps.{drop_step}

module _ (xs : List ℕ) (i x : ℕ) (l : i < length xs) (at : x ≡ get_or xs i x) (t all : ℕ) (was : Bool)
    (so_far : cond was 1 0 + count (drop i xs) t ≡ all) where
  counted : cond was 1 0 + (cond (x == t) 1 0 + count (drop (i + 1) xs) t) ≡ all
  counted =
      let c = count-cons x (drop (i + 1) xs) t in
      let s : ◌≡◌ {A = ℕ} (count (drop i xs) t) (count (x ∷ drop (i + 1) xs) t) =
      ap (λ ys. count ys t) (drop_step xs i x l at) in
      omega (arith, c, s, so_far)

  -- a number that is taken, and wasn't before
  pub taken : (is : Bool) → (x ≡ t → was ≡ false) → is ≡ cond (is_eq (nat_cmp x t)) true was
      → cond is 1 0 + count (drop (i + 1) xs) t ≡ all
  taken is new u =
      let v : is ≡ cond (x == t) true was = u ∙ ap (λ b. cond b true was) (sym (unsigned_ties x t)) in
      let before = counted in
      elim (cases_eq x t) [
        | inl e ↦
            let b = eq-eqb x t e in
            let one : ◌≡◌ {A = ℕ} (cond (x == t) 1 0) 1 = ap (λ z. cond z 1 0) b in
            let none : ◌≡◌ {A = ℕ} (cond was 1 0) 0 = ap (λ z. cond z 1 0) (new e) in
            let here : ◌≡◌ {A = ℕ} (cond is 1 0) 1 = ap (λ z. cond z 1 0) (v ∙ ap (λ z. cond z true was) b) in
            omega (arith, before, one, none, here)
        | inr e ↦
            let b = ne_eqb x t e in
            let none : ◌≡◌ {A = ℕ} (cond (x == t) 1 0) 0 = ap (λ z. cond z 1 0) b in
            let same : ◌≡◌ {A = ℕ} (cond is 1 0) (cond was 1 0) =
            ap (λ z. cond z 1 0) (v ∙ ap (λ z. cond z true was) b) in
            omega (arith, before, none, same)
      ]

  -- a number that was taken before and comes again is there twice
  pub twice : x ≡ t → was ≡ true → 1 < all
  twice e b =
      let before = counted in
      let one : ◌≡◌ {A = ℕ} (cond (x == t) 1 0) 1 = ap (λ z. cond z 1 0) (eq-eqb x t e) in
      let had : ◌≡◌ {A = ℕ} (cond was 1 0) 1 = ap (λ z. cond z 1 0) b in
      omega (arith, before, one, had)
