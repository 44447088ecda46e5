-- How often an order may list each transaction, from a flag for each.
use Rattle.std.proofs.Common.{◌≡◌, ℕ, ◌+◌, ◌<◌, ◌≤◌, Bool, false, cond, List, length, map, get_or, refl, sym, ◌∙◌, ap, subst, arith, inl, inr}
use Rattle.std.proofs.lemmas.Bool.{cases_lt}
use Rattle.std.proofs.lemmas.List.{length-map, get_or_past}
use Rattle.std.proofs.lemmas.Option.{slice_get_read, get_or_from_slice_get}
use Rattle.lemmas.proofs.Counts.{count}
use Rattle.append_values.specs.declared.transaction.Outcome.TheVariants.{Aborted}
use Rattle.append_values.specs.declared.transaction.Transaction.{Transaction as TransactionValue}
use Rattle.append_values.specs.Meaning.Histories.{Transaction, transaction_of, nothing, outcome}
use Rattle.append_values.specs.Meaning.Runs.{Occurs}
use Rattle.append_check.specs.Meaning.Verdicts.{history_of}
use Rattle.append_check.specs.Machinery.Running.{flag}
use Rattle.append_check.proofs.Seeing.{outcome_at}

pub all_occur : (ts : List TransactionValue) (order : List ℕ) (flags : List Bool) → length flags ≡ length ts
    → ((t : ℕ) → count order t ≡ flag flags t) → ((t : ℕ) → t < length ts → Occurs (outcome (history_of ts) t) (flag flags t))
    → (t : ℕ) → Occurs (outcome (history_of ts) t) (count order t)
all_occur ts order flags sized counts each t =
    subst (Occurs (outcome (history_of ts) t)) (sym (counts t))
    (elim (cases_lt t (length ts)) [
      | inl l ↦ each t l
      | inr past ↦
          let within : length (map transaction_of ts) ≤ t = rw length-map past in
          let nobody : outcome (history_of ts) t ≡ Aborted =
          ap (λ (x : Transaction). x.outcome) (get_or_past (map transaction_of ts) t nothing within) in
          let beyond : length flags ≤ t = rw sized past in
          let none : flag flags t ≡ 0 = ap (λ b. cond b 1 0) (get_or_past flags t false beyond) in
          subst (λ o. Occurs o (flag flags t)) (sym nobody) none
    ])

-- one transaction more occurs as it may
pub next_occurs : (ts : List TransactionValue) (flags : List Bool) → length flags ≡ length ts → (i : ℕ) (x : TransactionValue) (b : Bool)
    → i < length ts → x ≡ get_or ts i x → b ≡ get_or flags i b → Occurs (get_or ts i x).outcome (cond b 1 0)
    → ((t : ℕ) → t < i → Occurs (outcome (history_of ts) t) (flag flags t))
    → (t : ℕ) → t < i + 1 → Occurs (outcome (history_of ts) t) (flag flags t)
next_occurs ts flags sized i x b within is at here each t less =
    elim (cases_lt t i) [
      | inl sooner ↦ each t sooner
      | inr past ↦
          let same : i ≡ t = omega (arith, less, past) in
          let ends = outcome_at ts i x (slice_get_read ts (length ts) i x refl within is) ∙ ap (λ (z : TransactionValue). z.outcome) is in
          let flagged = get_or_from_slice_get flags i b false (slice_get_read flags (length ts) i b (sym sized) within at) in
          subst (λ u. Occurs (outcome (history_of ts) u) (flag flags u)) same
          (subst (λ o. Occurs o (flag flags i)) (sym ends) (subst (λ f. Occurs (get_or ts i x).outcome (cond f 1 0)) (sym flagged) here))
    ]
