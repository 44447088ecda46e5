-- The tests of a certificate pass exactly if the history is accepted with it.
use Rattle.std.proofs.Common.{◌≡◌, ℕ, true, not, List, None}
use Rattle.std.proofs.lemmas.Bool.{ltb-true, lt-ltb, not-false, not_from_true}
use Rattle.adya_values.specs.Meaning.Histories.{History}
use Rattle.adya_values.specs.Meaning.Events.{is_committed}
use Rattle.adya_values.specs.Computing.EdgeList.{edge_list}
use Rattle.adya_values.specs.Clauses.Acceptance.{IsChecked, IsAccepted}
use Rattle.adya_values.specs.Computing.Certificates.{lists_the_committed, is_forward, first_backward}
use Rattle.adya_laws.proofs.EdgeList.{edge_listed, listed_edge}
use Rattle.lemmas.proofs.Finds.{find_none, none_found}
use Rattle.adya_values.proofs.ListsExactly.{counts_from_test, test_from_counts}
use Rattle.adya_values.proofs.Writes.{committed_source}

module _ (h : History) (ts : List ℕ) where
  pub accepted_from_test : IsChecked h → (lists_the_committed h ts ≡ true) × (first_backward h ts ≡ None)
      → IsAccepted h ts
  accepted_from_test checked test = record {
    checked = checked;
    committed_once = counts_from_test (is_committed h.events) ts h.events (committed_source h.events) test.0;
    forward = λ x d.
        ltb-true _ _ (not-false _ (find_none (λ y. not (is_forward ts y)) (edge_list h) x test.1 (edge_listed h x d)));
  }

  pub test_from_accepted : IsAccepted h ts → (lists_the_committed h ts ≡ true) × (first_backward h ts ≡ None)
  test_from_accepted a = (
    test_from_counts (is_committed h.events) ts h.events a.committed_once,
    none_found (λ y. not (is_forward ts y)) (edge_list h)
        (λ x c. not_from_true _ (lt-ltb _ _ (a.forward x (listed_edge h x c)))),
  )
