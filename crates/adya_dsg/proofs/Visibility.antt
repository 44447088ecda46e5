-- Whether the version at a place is visible, by how many changes come up to it.
use Rattle.std.proofs.Common.{◌≡◌, ℕ, zero, suc, ◌+◌, ◌%◌, ◌==◌, ◌<◌, ◌≤◌, Bool, true, false, cond, not, leb, List, [], ◌∷◌, length, is_some, filter, refl, sym, ◌∙◌, ap, arith, inl, inr}
use Rattle.std.specs.List.Sorted.{IsPartitionPoint}
use Rattle.std.proofs.Math.Nat.{suc-mod, mod-lt}
use Rattle.std.proofs.lemmas.Bool.{cases_lt, le-leb, lt-leb, false≢true}
use Rattle.std.proofs.lemmas.Option.{slice_get_past}
use Rattle.adya_values.specs.Meaning.Histories.{History}
use Rattle.adya_values.specs.Meaning.Orders.{writers, shown_by, is_visible_at}
use Rattle.adya_values.specs.Meaning.Selections.{differ, changes_matches}
use Rattle.adya_values.specs.Computing.EdgeList.{numbers}
use Rattle.adya_dsg.specs.Machinery.Links.{changed_places}

abbrev is_odd : ℕ → Bool
is_odd n = n % 2 == 1

-- the numbers at most p
abbrev up_to : ℕ → List ℕ → List ℕ
up_to p qs = filter (λ q. leb q p) qs

-- how many they are, if a search found the first that is more
counted : (qs : List ℕ) (p i : ℕ) → i ≤ length qs → IsPartitionPoint (λ q. leb q p ≡ true) (λ q. leb q p ≡ false) qs i
    → length (up_to p qs) ≡ i
counted [] p zero l point = refl
counted [] p (suc i) l point = absurd (omega (arith, l))
counted (q ∷ qs) p zero l point =
    let more = point.1 0 q (omega arith) (omega arith) in
    ap (λ b. length (cond b (q ∷ up_to p qs) (up_to p qs))) more ∙
    counted qs p zero (omega arith) (λ j d m k. absurd (omega (arith, k)), λ j d m k. point.1 (suc j) d (omega arith) (omega (arith, k)))
counted (q ∷ qs) p (suc i) l point =
    let less = point.0 0 q (omega arith) (omega arith) in
    ap (λ b. length (cond b (q ∷ up_to p qs) (up_to p qs))) less ∙
    ap suc
    (counted qs p i (omega (arith, l))
    (λ j d m k. point.0 (suc j) d (omega (arith, m)) (omega (arith, k)), λ j d m k. point.1 (suc j) d (omega (arith, m)) (omega (arith, k))))

differ_false : (a : Bool) → a ≡ differ a false
differ_false true = refl
differ_false false = refl

changed : (a b o : Bool) → differ b a ≡ true → differ b o ≡ differ a (not o)
changed true true o e = absurd (cc (e))
changed true false true e = refl
changed true false false e = refl
changed false true o e = refl
changed false false o e = absurd (cc (e))

unchanged : (a b o : Bool) → differ b a ≡ false → differ b o ≡ differ a o
unchanged true true o e = refl
unchanged true false o e = absurd (cc (e))
unchanged false true o e = absurd (cc (e))
unchanged false false o e = refl

odd_rest : (r : ℕ) → r < 2 → (suc r % 2 == 1) ≡ not (r == 1)
odd_rest zero l = refl
odd_rest (suc zero) l = refl
odd_rest (suc (suc r)) l = absurd (omega (arith, l))

odd_next : (n : ℕ) → is_odd (suc n) ≡ not (is_odd n)
odd_next n = ap (λ r. r == 1) (suc-mod n 2) ∙ odd_rest (n % 2) (mod-lt n (omega arith))

module _ (h : History) (k : List ℕ) where
  -- how many of the n places after a are changes, and at most p
  abbrev among : ℕ → ℕ → ℕ → ℕ
  among a n p = length (up_to p (filter (changes_matches h k) (numbers (suc a) n)))

  none_among : (a n p : ℕ) → p ≤ a → among a n p ≡ 0
  none_among a zero p l = refl
  none_among a (suc n) p l =
      let later = filter (changes_matches h k) (numbers (suc (suc a)) n) in
      let none = none_among (suc a) n p (omega (arith, l)) in
      elim (changes_matches h k (suc a)) as (λ b. length (up_to p (cond b (suc a ∷ later) later)) ≡ 0) [
        | true ↦ ap (λ b. length (cond b (suc a ∷ up_to p later) (up_to p later))) (lt-leb (suc a) p (omega (arith, l))) ∙ none
        | false ↦ none
      ]

  module _ (a n p : ℕ) (l : suc a ≤ p) where
    abbrev later : List ℕ
    later = filter (changes_matches h k) (numbers (suc (suc a)) n)

    abbrev count : ℕ
    count = among (suc a) n p

    step : (b : Bool) → changes_matches h k (suc a) ≡ b
        → differ (is_visible_at h k (suc a)) (is_odd count)
        ≡ differ (is_visible_at h k a) (is_odd (length (up_to p (cond b (suc a ∷ later) later))))
    step true e =
        changed (is_visible_at h k a) (is_visible_at h k (suc a)) (is_odd count) e ∙
        ap (differ (is_visible_at h k a))
        (sym (odd_next count) ∙
        ap (λ b. is_odd (length (cond b (suc a ∷ up_to p later) (up_to p later)))) (sym (le-leb (suc a) p l)))
    step false e = unchanged (is_visible_at h k a) (is_visible_at h k (suc a)) (is_odd count) e

  here : (a n p : ℕ) → a ≡ p → is_visible_at h k p ≡ differ (is_visible_at h k a) (is_odd (among a n p))
  here a n p e =
      ap (is_visible_at h k) (sym e) ∙
      (differ_false (is_visible_at h k a) ∙
      ap (λ m. differ (is_visible_at h k a) (is_odd m)) (sym (none_among a n p (omega (arith, e)))))

  -- visible, if it was so at place a and there was an even number of changes since, or the other way round
  by_changes : (a n p : ℕ) → a ≤ p → p ≤ a + n
      → is_visible_at h k p ≡ differ (is_visible_at h k a) (is_odd (among a n p))
  by_changes a zero p l m = here a zero p (omega (arith, l, m))
  by_changes a (suc n) p l m =
      elim (cases_lt a p) [
        | inl less ↦
            by_changes (suc a) n p (omega (arith, less)) (omega (arith, m)) ∙
            step a n p (omega (arith, less)) (changes_matches h k (suc a)) refl
        | inr more ↦ here a (suc n) p (omega (arith, l, more))
      ]

  pub visible_by : (p i : ℕ) → p ≤ length (writers h k) → i ≤ length (changed_places h k)
      → IsPartitionPoint (λ q. leb q p ≡ true) (λ q. leb q p ≡ false) (changed_places h k) i
      → is_visible_at h k p ≡ (i % 2 == 1)
  visible_by p i l m point =
      by_changes 0 (length (writers h k)) p (omega arith) (omega (arith, l)) ∙ ap is_odd (counted (changed_places h k) p i m point)

  pub not_visible : (p : ℕ) → length (writers h k) < p → is_visible_at h k p ≡ false
  not_visible zero l = absurd (omega (arith, l))
  not_visible (suc p) l = ap (λ o. is_some (shown_by k h.events o)) (slice_get_past (writers h k) p (omega (arith, l)))

  pub visible_within : (p : ℕ) → is_visible_at h k p ≡ true → p ≤ length (writers h k)
  visible_within p is = elim (cases_lt (length (writers h k)) p) [
    | inl past ↦ absurd (false≢true (sym (not_visible p past) ∙ is))
    | inr within ↦ within
  ]
