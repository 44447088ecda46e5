-- The loop that collects the places whose versions change the matches.
use Rattle.std.proofs.Common.{◌≡◌, ℕ, suc, ◌+◌, ◌<◌, Bool, true, false, cond, not, List, [], ◌∷◌, ◌++◌, length, get_or, drop, Some, is_some, filter, slice_get, refl, sym, ◌∙◌, ap, arith, append_assoc}
use Rattle.std.proofs.lemmas.Option.{slice_get_read}
use mathlib.Core.Bool.{beq}
use Rattle.adya_values.specs.Meaning.Histories.{History}
use Rattle.adya_values.specs.Meaning.Events.{last_write, shown}
use Rattle.adya_values.specs.Meaning.Orders.{writers, installer, shown_by, is_visible_at}
use Rattle.adya_values.specs.Meaning.Selections.{differ, changes_matches}
use Rattle.adya_values.specs.Computing.EdgeList.{numbers}
use Rattle.lemmas.proofs.Steps.{drop_step}

differ_is : (a b : Bool) → not (beq a b) ≡ differ a b
differ_is true true = refl
differ_is true false = refl
differ_is false true = refl
differ_is false false = refl

pub installer_is : (h : History) (k ws : List ℕ) (i x : ℕ) → writers h k ≡ ws → i < length ws → x ≡ get_or ws i x
    → installer h k (suc i) ≡ Some x
installer_is h k ws i x w l e = ap (λ zs. slice_get zs i) w ∙ slice_get_read ws (length ws) i x refl l e

module _ (h : History) (k ws : List ℕ) (w : writers h k ≡ ws) (i x : ℕ) (l : i < length ws) (e : x ≡ get_or ws i x)
    (was now : Bool) (before : was ≡ is_visible_at h k i)
    (here : now ≡ is_some (shown (last_write x k h.events))) where
  visible_here : is_visible_at h k (suc i) ≡ now
  visible_here = ap (λ o. is_some (shown_by k h.events o)) (installer_is h k ws i x w l e) ∙ sym here

  pub visible_next : now ≡ is_visible_at h k (i + 1)
  visible_next =
      let next : suc i ≡ i + 1 = omega arith in
      sym visible_here ∙ ap (is_visible_at h k) next

  changes_here : (b : Bool) → not (beq now was) ≡ b → changes_matches h k (suc i) ≡ b
  changes_here b t =
      ap (λ v. differ v (is_visible_at h k i)) visible_here ∙
      (ap (differ now) (sym before) ∙ (sym (differ_is now was) ∙ t))

  abbrev rest : List ℕ
  rest = filter (changes_matches h k) (numbers (suc (i + 1)) (length (drop (i + 1) ws)))

  step : (b : Bool) → not (beq now was) ≡ b
      → filter (changes_matches h k) (numbers (suc i) (length (drop i ws))) ≡ cond b (suc i ∷ rest) rest
  step b t =
      let next : suc i ≡ i + 1 = omega arith in
      let more = λ (j : ℕ). filter (changes_matches h k) (numbers (suc j) (length (drop (i + 1) ws))) in
      ap (λ zs. filter (changes_matches h k) (numbers (suc i) (length zs))) (drop_step ws i x l e) ∙
      (ap (λ c. cond c (suc i ∷ more (suc i)) (more (suc i))) (changes_here b t) ∙
      ap (λ j. cond b (suc i ∷ more j) (more j)) next)

  pub change_noted : (done all : List ℕ) → not (beq now was) ≡ true
      → done ++ filter (changes_matches h k) (numbers (suc i) (length (drop i ws))) ≡ all
      → (done ++ (i + 1) ∷ []) ++ rest ≡ all
  change_noted done all t s =
      let next : i + 1 ≡ suc i = omega arith in
      append_assoc done ((i + 1) ∷ []) rest ∙
      (ap (λ j. done ++ j ∷ rest) next ∙ (ap (λ zs. done ++ zs) (sym (step true t)) ∙ s))

  pub change_passed : (done all : List ℕ) → not (beq now was) ≡ false
      → done ++ filter (changes_matches h k) (numbers (suc i) (length (drop i ws))) ≡ all → done ++ rest ≡ all
  change_passed done all t s = ap (λ zs. done ++ zs) (sym (step false t)) ∙ s
