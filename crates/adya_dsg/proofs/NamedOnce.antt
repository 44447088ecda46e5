-- A line names each of its writers at one place.
use Rattle.std.proofs.Common.{◌≡◌, ℕ, zero, suc, ◌≤◌, Bool, true, false, cond, List, [], ◌∷◌, Some, slice_get, ◌∙◌, ap, arith, inl, inr}
use Rattle.std.proofs.lemmas.Bool.{cases_eq, eq-eqb, ne_eqb}
use Rattle.std.proofs.lemmas.Option.{none-some, same_Some}
use Rattle.lemmas.proofs.Counts.{count, count_at, count_same, count_other}
use Rattle.adya_values.specs.Meaning.Histories.{History}
use Rattle.adya_values.specs.Meaning.Orders.{place, writers}
use Rattle.adya_values.specs.Clauses.Rules.{installs}
use Rattle.adya_values.specs.Clauses.Acceptance.{IsChecked}

once_or_not : (b : Bool) → cond b 1 0 ≤ 1
once_or_not true = omega arith
once_or_not false = omega arith

place_at : (ws : List ℕ) (t i : ℕ) → slice_get ws i ≡ Some t → count ws t ≤ 1 → place ws t ≡ i
place_at [] t i at once = absurd (none-some t at)
place_at (x ∷ ws) t zero at once = ap (λ b. cond b 0 (suc (place ws t))) (eq-eqb x t (same_Some x t at))
place_at (x ∷ ws) t (suc i) at once =
    let later = count_at ws i t at in
    elim (cases_eq x t) [
      | inl e ↦ let twice = count_same x ws t e in absurd (omega (arith, twice, later, once))
      | inr e ↦
          let rest = count_other x ws t e in
          ap (λ b. cond b 0 (suc (place ws t))) (ne_eqb x t e) ∙
          ap suc (place_at ws t i at (omega (arith, rest, once)))
    ]

-- who stands at an index of a line of a checked history has that place
pub named_at : (h : History) → IsChecked h → (k : List ℕ) (t i : ℕ) → slice_get (writers h k) i ≡ Some t
    → place (writers h k) t ≡ i
named_at h checked k t i at =
    let orders = checked.well_formed.orders k t in
    let once = once_or_not (installs h.events k t) in
    place_at (writers h k) t i at (omega (arith, orders, once))
