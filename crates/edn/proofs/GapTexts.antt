-- What is passed over is a gap.
use Rattle.std.proofs.Common.{◌≡◌, ◌≢◌, ℕ, ◌-◌, ◌==◌, Bool, true, false, cond, List, [], ◌∷◌, ◌++◌, length, drop, All, None, Some, ◌⊎◌, inl, inr, refl, sym, ap, ◌∙◌, subst, append_assoc, rules, arith}
use Rattle.std.proofs.lemmas.Bool.{eqb-true, eqb-false}
use Rattle.std.proofs.lemmas.Grind.{common_steps}
use Rattle.edn.specs.Meaning.Bytes.{is_space}
use Rattle.edn.specs.Meaning.Lexing.{IsGap, no_gap, space, comment}
use Rattle.edn.specs.Computing.Gaps.{after_gap_in, after_gap}

pub gap_append : {a b : List ℕ} → IsGap a → IsGap b → IsGap (a ++ b)
gap_append no_gap h = h
gap_append (space e g) h = space e (gap_append g h)
gap_append {b = b} (comment {gap = gap} line plain g) h =
    subst (λ x. IsGap (59 ∷ x)) (sym (append_assoc line (10 ∷ gap) b)) (comment line plain (gap_append g h))

-- what holds either way
either : {A : Type 0} (P : A → Type 0) (b : Bool) (x y : A) → (b ≡ true → P x) → (b ≡ false → P y) → P (cond b x y)
either P true x y f g = f refl
either P false x y f g = g refl

-- the text is a gap and what follows it
abbrev pub HasGap : List ℕ → List ℕ → Type 0
HasGap text rest = (gap : List ℕ) × IsGap gap × (text ≡ gap ++ rest)

-- in a comment that doesn't end, or one that does, with a gap after it
abbrev InComment : List ℕ → List ℕ → List ℕ → Type 0
InComment start text rest =
    (rest ≡ start) ⊎ ((line gap : List ℕ) × All (λ (b : ℕ). b ≢ 10) line × IsGap gap × (text ≡ line ++ 10 ∷ (gap ++ rest)))

no_feeds : All (λ (b : ℕ). b ≢ 10) []
no_feeds = search rules

more_plain : (b : ℕ) (line : List ℕ) → b ≢ 10 → All (λ (c : ℕ). c ≢ 10) line → All (λ (c : ℕ). c ≢ 10) (b ∷ line)
more_plain b line h all = search rules

from_comment : (bs rest : List ℕ) → InComment (59 ∷ bs) bs rest → HasGap (59 ∷ bs) rest
from_comment bs rest (inl e) = ([], no_gap, sym e)
from_comment bs rest (inr (line, gap, plain, g, e)) =
    (59 ∷ (line ++ 10 ∷ gap), comment line plain g, ap (λ x. 59 ∷ x) (e ∙ sym (append_assoc line (10 ∷ gap) rest)))

more_line : (b : ℕ) (start bs rest : List ℕ) → b ≢ 10 → InComment start bs rest → InComment start (b ∷ bs) rest
more_line b start bs rest h (inl e) = inl e
more_line b start bs rest h (inr (line, gap, plain, g, e)) =
    inr (b ∷ line, gap, more_plain b line h plain, g, ap (λ x. b ∷ x) e)

more_space : (b : ℕ) (bs rest : List ℕ) → is_space b ≡ true → HasGap bs rest → HasGap (b ∷ bs) rest
more_space b bs rest e (gap, g, is) = (b ∷ gap, space e g, ap (λ x. b ∷ x) is)

end_comment : (b : ℕ) (start bs rest : List ℕ) → (b == 10) ≡ true → HasGap bs rest → InComment start (b ∷ bs) rest
end_comment b start bs rest e (gap, g, is) =
    inr ([], gap, no_feeds, g, ap (λ x. x ∷ bs) (eqb-true b 10 e) ∙ ap (λ x. 10 ∷ x) is)

mutual
  pub gap_in : (text : List ℕ) → HasGap text (after_gap_in None text)
  gap_in [] = ([], no_gap, refl)
  gap_in (b ∷ bs) =
      either (HasGap (b ∷ bs)) (is_space b) _ _
      (λ e. more_space b bs _ e (gap_in bs))
      (λ _. either (HasGap (b ∷ bs)) (b == 59) _ _
      (λ e. subst (λ x. HasGap (x ∷ bs) (after_gap_in (Some (b ∷ bs)) bs)) (sym (eqb-true b 59 e))
      (from_comment bs _ (subst (λ x. InComment (x ∷ bs) bs (after_gap_in (Some (b ∷ bs)) bs)) (eqb-true b 59 e)
      (comment_in (b ∷ bs) bs))))
      (λ _. ([], no_gap, refl)))

  comment_in : (start text : List ℕ) → InComment start text (after_gap_in (Some start) text)
  comment_in start [] = inl refl
  comment_in start (b ∷ bs) =
      either (InComment start (b ∷ bs)) (b == 10) _ _
      (λ e. end_comment b start bs _ e (gap_in bs))
      (λ e. more_line b start bs _ (eqb-false b 10 e) (comment_in start bs))

-- what was passed over, and that the rest is what is left after as many bytes
pub gap_passed : (text : List ℕ) → HasGap text (after_gap text)
unfolding after_gap
gap_passed text = gap_in text

pub rest_after : (front rest : List ℕ) → drop (length (front ++ rest) - length rest) (front ++ rest) ≡ rest
rest_after front rest = grind (arith, common_steps)

dropped : (text rest : List ℕ) → rest ≡ after_gap text → drop (length text - length rest) text ≡ rest
dropped text rest e =
    let (gap, _, whole) = gap_passed text in
    let all : text ≡ gap ++ rest = whole ∙ ap (λ x. gap ++ x) (sym e) in
    subst (λ x. drop (length x - length rest) x ≡ rest) (sym all) (rest_after gap rest)

pub gap_split : (text rest : List ℕ) → rest ≡ after_gap text
    → (gap : List ℕ) × IsGap gap × (text ≡ gap ++ drop (length text - length rest) text)
gap_split text rest e =
    let (gap, g, whole) = gap_passed text in
    (gap, g, whole ∙ ap (λ x. gap ++ x) (sym (dropped text rest e ∙ e)))

-- what is left is what follows the gap
pub gap_rest : (text rest : List ℕ) → rest ≡ after_gap text → drop (length text - length rest) text ≡ after_gap_in None text
unfolding after_gap
gap_rest text rest e = dropped text rest e ∙ e

-- ---- nothing more is passed over

abbrev pub IsPast : List ℕ → Type 0
IsPast text = after_gap_in None text ≡ text

mutual
  past_in : (text : List ℕ) → IsPast (after_gap_in None text)
  past_in [] = refl
  past_in (b ∷ bs) =
      either IsPast (is_space b) _ _
      (λ _. past_in bs)
      (λ s. either IsPast (b == 59) _ _ (λ c. past_comment (b ∷ bs) bs (rw (s, c) refl)) (λ c. rw (s, c) refl))

  past_comment : (start text : List ℕ) → after_gap_in None start ≡ after_gap_in (Some start) text
      → IsPast (after_gap_in (Some start) text)
  past_comment start [] e = e
  past_comment start (b ∷ bs) e =
      either IsPast (b == 10) _ _ (λ _. past_in bs) (λ n. past_comment start bs (rw n at e))

pub gap_past : (text rest : List ℕ) → rest ≡ after_gap text → IsPast (drop (length text - length rest) text)
unfolding after_gap
gap_past text rest e = subst IsPast (sym (dropped text rest e ∙ e)) (past_in text)

not_longer : (b : ℕ) (gap bs : List ℕ) → bs ≡ gap ++ b ∷ bs → ⊥
not_longer b gap bs e = grind (arith, common_steps, ap length e)

-- so it doesn't begin with white space
pub past_space : (b : ℕ) (bs : List ℕ) (v : Bool) → is_space b ≡ v → IsPast (b ∷ bs) → is_space b ≡ false
past_space b bs true s past =
    let (gap, _, whole) = gap_in bs in
    absurd (not_longer b gap bs (whole ∙ ap (λ x. gap ++ x) (rw s at past)))
past_space b bs false s past = s

pub past_more : (b : ℕ) (bs more : List ℕ) → (b == 59) ≡ false → IsPast (b ∷ bs) → IsPast (b ∷ (bs ++ more))
past_more b bs more c past = rw (past_space b bs (is_space b) refl past, c) refl
