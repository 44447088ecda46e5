-- The place of a number in a list, and who installed the version at a place of a version order.
use Rattle.std.proofs.Common.{◌≡◌, ◌≢◌, ℕ, zero, suc, ◌==◌, ◌<◌, ◌≤◌, List, [], ◌∷◌, ◌++◌, length, get_or, slice_get, Some, refl, sym, ◌∙◌, ap, arith, inl, inr}
use Rattle.std.specs.List.{Contains}
use Rattle.std.proofs.lemmas.Bool.{cases_eq, eq-eqb, ne_eqb, cond-true, cond-false}
use Rattle.std.proofs.lemmas.Option.{none-some, slice_get_within, slice_get-get_or}
use Rattle.lemmas.proofs.Counts.{count, count_same, count_other}
use Rattle.adya_values.specs.Meaning.Histories.{Order, History}
use Rattle.adya_values.specs.Meaning.Orders.{place, writers, installer}
use Rattle.adya_values.proofs.KeyLookups.{line_written}

pub place_same : (x : ℕ) (xs : List ℕ) (t : ℕ) → x ≡ t → place (x ∷ xs) t ≡ 0
place_same x xs t e = cond-true {A = ℕ} (x == t) 0 (suc (place xs t)) (eq-eqb x t e)

pub place_other : (x : ℕ) (xs : List ℕ) (t : ℕ) → x ≢ t → place (x ∷ xs) t ≡ suc (place xs t)
place_other x xs t e = cond-false {A = ℕ} (x == t) 0 (suc (place xs t)) (ne_eqb x t e)

pub place_in : (xs : List ℕ) (t : ℕ) → 0 < count xs t → place xs t < length xs
place_in [] t h = absurd (omega arith)
place_in (x ∷ xs) t h =
    elim (cases_eq x t) [
      | inl e ↦ let same = place_same x xs t e in omega (arith, same)
      | inr e ↦
          let other = place_other x xs t e in
          let rest = place_in xs t (let same = count_other x xs t e in omega (arith, same, h)) in
          omega (arith, other, rest)
    ]

-- the place of a number that does not stand in the front
pub place_at : (front : List ℕ) (t : ℕ) (back : List ℕ) → count front t ≡ 0 → place (front ++ t ∷ back) t ≡ length front
place_at [] t back h = place_same t back t refl
place_at (x ∷ front) t back h =
    elim (cases_eq x t) [
      | inl e ↦ absurd (let same = count_same x front t e in omega (arith, same, h))
      | inr e ↦
          let other = place_other x (front ++ t ∷ back) t e in
          let rest = place_at front t back (let same = count_other x front t e in omega (arith, same, h)) in
          omega (arith, other, rest)
    ]

-- another number that stands no later stands in the front
pub place_before : (front : List ℕ) (t : ℕ) (back : List ℕ) (u : ℕ) → u ≢ t
    → place (front ++ t ∷ back) u < suc (length front) → place (front ++ t ∷ back) u < length front
place_before [] t back u ne h = absurd (let other = place_other t back u (λ e. ne (sym e)) in omega (arith, other, h))
place_before (x ∷ front) t back u ne h =
    elim (cases_eq x u) [
      | inl e ↦ let same = place_same x (front ++ t ∷ back) u e in omega (arith, same)
      | inr e ↦
          let other = place_other x (front ++ t ∷ back) u e in
          let rest = place_before front t back u ne (omega (arith, other, h)) in
          omega (arith, other, rest)
    ]

pub place_get : (xs : List ℕ) (t : ℕ) → 0 < count xs t → slice_get xs (place xs t) ≡ Some t
place_get [] t h = absurd (omega arith)
place_get (x ∷ xs) t h =
    elim (cases_eq x t) [
      | inl e ↦ ap (slice_get (x ∷ xs)) (place_same x xs t e) ∙ ap Some e
      | inr e ↦
          ap (slice_get (x ∷ xs)) (place_other x xs t e) ∙
          place_get xs t (let same = count_other x xs t e in omega (arith, same, h))
    ]

-- ---- installers

pub installer_within : (h : History) (k : List ℕ) (q u : ℕ) → installer h k q ≡ Some u → q ≤ length (writers h k)
installer_within h k zero u e = absurd (none-some u e)
installer_within h k (suc q) u e = let within = slice_get_within (writers h k) q u e in omega (arith, within)

pub installer_there : (h : History) (k : List ℕ) (q : ℕ) → q < length (writers h k)
    → (u : ℕ) × (installer h k (suc q) ≡ Some u)
installer_there h k q l = (get_or (writers h k) q 0, slice_get-get_or (writers h k) q 0 l)

pub installer_line : (h : History) (k : List ℕ) (q u : ℕ) → installer h k q ≡ Some u
    → (o : Order) × Contains h.orders o × (o.key ≡ k)
installer_line h k zero u e = absurd (none-some u e)
installer_line h k (suc q) u e = line_written h.orders k q u e
