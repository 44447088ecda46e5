-- Passing over white space and comments one by one.
use Rattle.std.proofs.Common.{◌≡◌, ℕ, ◌-◌, ◌≤◌, ◌==◌, List, [], ◌∷◌, length, get_or, take, drop, Some, None, inl, inr, refl, ap, subst, arith}
use Rattle.edn.specs.Meaning.Bytes.{is_space}
use Rattle.edn.specs.Computing.Gaps.{after_line, after_one, after_gap_in}
use Rattle.edn.proofs.Choices.{chosen}
use Rattle.edn.proofs.Fronts.{behind_is}

comment_open : (c bs : List ℕ) → after_line bs ≡ None → after_gap_in (Some c) bs ≡ c
comment_open c [] e = refl
comment_open c (b ∷ bs) e =
    elim (chosen (b == 10) _ _ _ e) [
      | inl w ↦ absurd (let no : Some bs ≡ None = w.1 in cc)
      | inr w ↦ rw w.0 (comment_open c bs w.1)
    ]

comment_closed : (c bs r : List ℕ) → after_line bs ≡ Some r → after_gap_in (Some c) bs ≡ after_gap_in None r
comment_closed c [] r e = absurd (let no : None ≡ Some r = e in cc)
comment_closed c (b ∷ bs) r e =
    elim (chosen (b == 10) _ _ _ e) [
      | inl w ↦ rw w.0 (let same : Some bs ≡ Some r = w.1 in let is : bs ≡ r = cc in ap (after_gap_in None) is)
      | inr w ↦ rw w.0 (comment_closed c bs r w.1)
    ]

-- what is no gap stays
pub no_gap : (b : ℕ) (bs : List ℕ) → after_one b bs ≡ None → after_gap_in None (b ∷ bs) ≡ b ∷ bs
no_gap b bs e =
    elim (chosen (is_space b) _ _ _ e) [
      | inl w ↦ absurd (let no : Some bs ≡ None = w.1 in cc)
      | inr w ↦ elim (chosen (b == 59) _ _ _ w.1) [
        | inl v ↦ rw (w.0, v.0) (comment_open (b ∷ bs) bs v.1)
        | inr v ↦ rw (w.0, v.0) refl
      ]
    ]

pub one_gap : (b : ℕ) (bs r : List ℕ) → after_one b bs ≡ Some r → after_gap_in None (b ∷ bs) ≡ after_gap_in None r
one_gap b bs r e =
    elim (chosen (is_space b) _ _ _ e) [
      | inl w ↦ rw w.0 (let same : Some bs ≡ Some r = w.1 in let is : bs ≡ r = cc in ap (after_gap_in None) is)
      | inr w ↦ elim (chosen (b == 59) _ _ _ w.1) [
        | inl v ↦ rw (w.0, v.0) (comment_closed (b ∷ bs) bs r v.1)
        | inr v ↦ absurd (let no : None ≡ Some r = v.1 in cc)
      ]
    ]

-- the same for a text that isn't empty
pub no_gap_in : (xs : List ℕ) → 1 ≤ length xs → after_one (get_or xs 0 0) (take (length xs - 1) (drop 1 xs)) ≡ None
    → after_gap_in None xs ≡ xs
no_gap_in [] some e = absurd (omega arith)
no_gap_in (b ∷ bs) some e = no_gap b bs (subst (λ x. after_one b x ≡ None) (behind_is bs) e)

pub one_gap_in : (xs r : List ℕ) → 1 ≤ length xs
    → after_one (get_or xs 0 0) (take (length xs - 1) (drop 1 xs)) ≡ Some r
    → after_gap_in None xs ≡ after_gap_in None r
one_gap_in [] r some e = absurd (omega arith)
one_gap_in (b ∷ bs) r some e = one_gap b bs r (subst (λ x. after_one b x ≡ Some r) (behind_is bs) e)
