-- Closing a log ends every transaction.
use Rattle.std.specs.List.{Contains}
use Rattle.std.proofs.Common.{List, Option, [], arith, cond, false, inl, inr, subst, suc, sym, true, zero, ℕ, ◌==◌, ◌∷◌, ◌≡◌}
use Rattle.std.proofs.lemmas.Bool.{and_from, both_ways, cases_Bool, eq-eqb, false_from_ne_true, not_from_false, or_from, or_parts}
use Rattle.lemmas.proofs.Members.{none_contained}
use Rattle.ssi_conflict.specs.Meaning.Calls.{Call}
use Rattle.ssi_store.specs.Meaning.Acts.{Aborts, Act, has_aborted, is_open, begun}
use Rattle.ssi_store.specs.Clauses.Finished.{close, closed}
use Rattle.ssi_store.proofs.SoundLogs.{Open, Safe, Sound, open_from, begun_there}

pub open_to : (t : ℕ) (log : List Act) → Open t log → is_open t log ≡ true
open_to t log o = and_from _ _ o.begun (not_from_false _ (or_from _ _ o.uncommitted o.unaborted))

open_before : (t u : ℕ) (log : List Act) → is_open t (Aborts u ∷ log) ≡ true
    → (is_open t log ≡ true) × ((u ≡ t) → ⊥)
open_before t u log e =
    let o = open_from t (Aborts u ∷ log) e in
    let both = or_parts (u == t) (has_aborted t log) o.unaborted in (
      open_to t log (record { begun = o.begun; uncommitted = o.uncommitted; unaborted = both.1 }),
      λ s. both_ways _ both.0 (eq-eqb u t s),
    )

close_sound : (ts : List ℕ) (log : List Act) → Sound log → Sound (close ts log)
close_sound [] log s = s
close_sound (t ∷ ts) log s =
    elim (cases_Bool (is_open t log)) [
      | inl holds ↦ subst (λ b. Sound (close ts (cond b (Aborts t ∷ log) log))) (sym holds)
          (close_sound ts (Aborts t ∷ log) (holds, s))
      | inr fails ↦ subst (λ b. Sound (close ts (cond b (Aborts t ∷ log) log))) (sym fails) (close_sound ts log s)
    ]

pub close_safe : (pivot : List Call → Option ℕ) (ts : List ℕ) (log : List Act) → Safe pivot log
    → Safe pivot (close ts log)
close_safe pivot [] log s = s
close_safe pivot (t ∷ ts) log s =
    elim (cases_Bool (is_open t log)) [
      | inl holds ↦ subst (λ b. Safe pivot (close ts (cond b (Aborts t ∷ log) log))) (sym holds)
          (close_safe pivot ts (Aborts t ∷ log) (tt, s))
      | inr fails ↦ subst (λ b. Safe pivot (close ts (cond b (Aborts t ∷ log) log))) (sym fails)
          (close_safe pivot ts log s)
    ]

close_opens : (t : ℕ) (ts : List ℕ) (log : List Act) → is_open t (close ts log) ≡ true → is_open t log ≡ true
close_opens t [] log e = e
close_opens t (u ∷ ts) log e =
    elim (cases_Bool (is_open u log)) [
      | inl holds ↦ (open_before t u log (close_opens t ts (Aborts u ∷ log)
          (subst (λ b. is_open t (close ts (cond b (Aborts u ∷ log) log)) ≡ true) holds e))).0
      | inr fails ↦ close_opens t ts log
          (subst (λ b. is_open t (close ts (cond b (Aborts u ∷ log) log)) ≡ true) fails e)
    ]

close_ends : (t : ℕ) (ts : List ℕ) (log : List Act) → Contains ts t → is_open t (close ts log) ≡ true → ⊥
close_ends t [] log c e = none_contained t c
close_ends t (u ∷ ts) log (zero, l, f) e =
    elim (cases_Bool (is_open u log)) [
      | inl holds ↦ (open_before t u log (close_opens t ts (Aborts u ∷ log)
          (subst (λ b. is_open t (close ts (cond b (Aborts u ∷ log) log)) ≡ true) holds e))).1 f
      | inr fails ↦ both_ways _ fails (subst (λ x. is_open x log ≡ true) (sym f) (close_opens t (u ∷ ts) log e))
    ]
close_ends t (u ∷ ts) log (suc i, l, f) e = close_ends t ts (cond (is_open u log) (Aborts u ∷ log) log)
    (i, omega (arith, l), f) e

pub closed_sound : (log : List Act) → Sound log → Sound (closed log)
closed_sound log s = close_sound (begun log) log s

pub closed_ended : (log : List Act) → (t : ℕ) → is_open t (closed log) ≡ false
closed_ended log = λ t. false_from_ne_true _ (λ e.
    close_ends t (begun log) log
    (begun_there t log (open_from t log (close_opens t (begun log) log e)).begun) e)
