-- When a verdict is that the certificate doesn't list the committed transactions.
use Rattle.std.proofs.Common.{◌≡◌, ◌↔◌, ℕ, Bool, true, false, cond, List, Option, Some, None, inl, inr, refl, ◌∙◌, ap}
use Rattle.std.proofs.lemmas.Bool.{both_ways, cases_Bool}
use Rattle.adya_values.specs.Meaning.Histories.{History}
use Rattle.adya_values.specs.Meaning.Events.{is_committed}
use Rattle.adya_values.specs.Meaning.Edges.{Edge}
use Rattle.adya_values.specs.Clauses.Acceptance.{IsChecked, ListsTheCommitted}
use Rattle.adya_values.specs.Computing.Shapes.{is_shape}
use Rattle.adya_values.specs.Computing.Faults.{Fault, first_fault}
use Rattle.adya_values.specs.Computing.Faults as faults
use Rattle.adya_values.specs.Computing.Certificates.{lists_the_committed, first_backward}
use Rattle.adya_values.proofs.ListsExactly.{counts_from_test, test_from_counts}
use Rattle.adya_values.proofs.Writes.{committed_source}
use Rattle.adya_rules.specs.Laws.Faults.{CheckedIffNoFault}
use Rattle.adya_audit.specs.Meaning.Verdicts.{NotTheCommitted}
use Rattle.adya_audit.specs.Computing.Verdicts.{edge_verdict, certificate_verdict, fault_verdict, verdict_of}
use Rattle.adya_audit.specs.Laws.Verdicts.{NotTheCommittedIffUnlisted}

unlisted : (f : Option Fault) (b : Bool) (o : Option Edge)
    → fault_verdict f (cond b (edge_verdict o) NotTheCommitted) ≡ NotTheCommitted → (f ≡ None) × (b ≡ false)
unlisted None true None e = absurd (cc (e))
unlisted None true (Some x) e = absurd (cc (e))
unlisted None false o e = (refl, refl)
unlisted (Some (faults.Malformed line rule)) b o e = absurd (cc (e))
unlisted (Some (faults.AbortedRead line version)) b o e = absurd (cc (e))
unlisted (Some (faults.IntermediateRead line version)) b o e = absurd (cc (e))

module _ (h : History) (ts : List ℕ) where
  listed_from_test : lists_the_committed h ts ≡ true → ListsTheCommitted h ts
  listed_from_test e = counts_from_test (is_committed h.events) ts h.events (committed_source h.events) e

  test_from_listed : ListsTheCommitted h ts → lists_the_committed h ts ≡ true
  test_from_listed l = test_from_counts (is_committed h.events) ts h.events l

  test_fails : (ListsTheCommitted h ts → ⊥) → lists_the_committed h ts ≡ false
  test_fails none =
      elim (cases_Bool (lists_the_committed h ts)) [
        | inl holds ↦ absurd (none (listed_from_test holds))
        | inr fails ↦ fails
      ]

pub not_the_committed : CheckedIffNoFault → NotTheCommittedIffUnlisted
not_the_committed exact h ts shape = (
  λ e.
      let both = unlisted (first_fault h) (lists_the_committed h ts) (first_backward h ts) e in
      ((exact h shape).0 both.0, λ l. both_ways (lists_the_committed h ts) both.1 (test_from_listed h ts l)),
  λ both.
      ap (λ f. fault_verdict f (certificate_verdict h ts)) ((exact h shape).1 both.0) ∙
      ap (λ b. cond b (edge_verdict (first_backward h ts)) NotTheCommitted) (test_fails h ts both.1),
)
