-- The edge that is named is the first that doesn't go forward.
use Rattle.std.proofs.Common.{◌≡◌, ℕ, not, List, Some, ◌∙◌, ap}
use Rattle.std.specs.List.{find}
use Rattle.std.proofs.lemmas.Bool.{both_ways, ltb-true, lt-ltb, not-true, not-false, not_from_true, not_from_false, false_from_ne_true}
use Rattle.adya_values.specs.Meaning.Histories.{History}
use Rattle.adya_values.specs.Meaning.Edges.{Edge}
use Rattle.adya_values.specs.Computing.EdgeList.{edge_list}
use Rattle.adya_values.specs.Computing.Certificates.{is_forward, first_backward}
use Rattle.lemmas.proofs.Finds.{find-splits, find-after}
use Rattle.adya_rules.specs.Clauses.FirstFaults.{IsFirstBackward}

module _ (h : History) (ts : List ℕ) (e : Edge) where
  pub backward_is_first : first_backward h ts ≡ Some e → IsFirstBackward h ts e
  backward_is_first found =
      let at = find-splits (λ x. not (is_forward ts x)) (edge_list h) e found in
      record {
        front = at.front;
        back = at.back;
        splits = at.splits;
        backward = λ before. both_ways _ (not-true _ at.passes) (lt-ltb _ _ before);
        forward = λ x c. ltb-true _ _ (not-false _ (at.fail x c));
      }

  pub first_backward_is_named : IsFirstBackward h ts e → first_backward h ts ≡ Some e
  first_backward_is_named f =
      ap (find (λ x. not (is_forward ts x))) f.splits ∙
      find-after (λ x. not (is_forward ts x)) f.front e f.back
      (not_from_false _ (false_from_ne_true _ (λ t. f.backward (ltb-true _ _ t))))
      (λ x c. not_from_true _ (lt-ltb _ _ (f.forward x c)))
