-- The test that a list has the numbers that pass, once each, and no others.
use Rattle.std.proofs.Common.{◌≡◌, ℕ, ◌==◌, Bool, true, cond, List, ◌∙◌, sym, ap, subst, arith, inl, inr}
use Rattle.std.specs.List.{Contains}
use Rattle.std.proofs.lemmas.Bool.{cases_Bool, cases_lt, eqb-true, eq-eqb, and_parts, and_from}
use Rattle.lemmas.proofs.Tests.{all_pass, list_all_when}
use Rattle.lemmas.proofs.Counts.{count, Contains-counted}
use Rattle.adya_values.specs.Meaning.Histories.{Event}
use Rattle.adya_values.specs.Meaning.Events.{txn_of}
use Rattle.adya_values.specs.Computing.Faults.{lists_exactly}

-- only numbers that the list has, or that an event has, need to be tested
pub counts_from_test : (test : ℕ → Bool) (xs : List ℕ) (events : List Event)
    → ((t : ℕ) → test t ≡ true → (e : Event) × Contains events e × (txn_of e ≡ t))
    → lists_exactly test xs events ≡ true → (t : ℕ) → count xs t ≡ cond (test t) 1 0
counts_from_test test xs events source all t =
    let parts = and_parts _ _ all in
    elim (cases_lt 0 (count xs t)) [
      | inl more ↦
          eqb-true _ _ (all_pass (λ u. count xs u == cond (test u) 1 0) xs t parts.0 (Contains-counted xs t more))
      | inr none ↦
          elim (cases_Bool (test t)) [
            | inl c ↦
                let e = source t c in
                eqb-true _ _ (subst (λ u. (count xs u == cond (test u) 1 0) ≡ true) e.2
                (all_pass (λ x. count xs (txn_of x) == cond (test (txn_of x)) 1 0) events e.0 parts.1 e.1))
            | inr c ↦ let zero_is : count xs t ≡ 0 = omega (arith, none) in zero_is ∙ ap (λ b. cond b 1 0) (sym c)
          ]
    ]

pub test_from_counts : (test : ℕ → Bool) (xs : List ℕ) (events : List Event)
    → ((t : ℕ) → count xs t ≡ cond (test t) 1 0) → lists_exactly test xs events ≡ true
test_from_counts test xs events all =
    and_from _ _
    (list_all_when (λ t. count xs t == cond (test t) 1 0) xs (λ t c. eq-eqb _ _ (all t)))
    (list_all_when (λ e. count xs (txn_of e) == cond (test (txn_of e)) 1 0) events (λ e c. eq-eqb _ _ (all (txn_of e))))
