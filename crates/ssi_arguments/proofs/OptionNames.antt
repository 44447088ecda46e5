-- What stands before the value of an option.
use Rattle.std.proofs.Common.{◌≡◌, ◌∙◌, ℕ, ◌+◌, ◌==◌, Bool, true, false, List, ◌∷◌, sym, ap, arith, cond, not, suc, take}
use Rattle.std.specs.List.{before_first, prefix_len}

module _ (b : ℕ) (bs : List ℕ) where
  abbrev cut : Bool → ℕ → List ℕ
  cut is_equals n = take (cond (not is_equals) n 0) (b ∷ bs)

  cut_begins : (is_equals : Bool) (n a : ℕ) (rest : List ℕ) → cut is_equals (suc n) ≡ a ∷ rest → (b ≡ a) × (take n bs ≡ rest)
  cut_begins true n a rest e = absurd (cc e)
  cut_begins false n a rest e = (cc e, cc e)

  one_more : (n : ℕ) → 1 + n ≡ suc n
  one_more n = omega arith

  -- what stands before the first `=` (61) begins as the whole does
  pub before_first-begins : (a : ℕ) (rest : List ℕ) → before_first (λ x. x == 61) (b ∷ bs) ≡ a ∷ rest
      → (b ≡ a) × (before_first (λ x. x == 61) bs ≡ rest)
  before_first-begins a rest e =
      let n = prefix_len (λ x. not (x == 61)) bs in
      cut_begins (b == 61) n a rest (sym (ap (cut (b == 61)) (one_more n)) ∙ e)
