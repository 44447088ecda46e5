-- Two transactions that left lists of a key which no order explains.
use Rattle.std.proofs.Common.{ℕ, List, ◌∷◌, ◌++◌, append_assoc, sym, ◌∙◌, ap, inl, inr}
use Rattle.std.specs.List.{flat_map}
use Rattle.std.proofs.lemmas.List.Concat.{flat_map-append}
use Rattle.append_values.specs.Meaning.Histories.{Operation, History}
use Rattle.append_values.specs.Meaning.Runs.{Explains}
use Rattle.append_values.specs.Meaning.Reads.{appended, own, HasRead, IsPrefixOf}
use Rattle.append_values.specs.Meaning.Reasons.{HasNoOrder}
use Rattle.append_values.specs.Meaning.Reads.{left}
use Rattle.append_laws.proofs.Prefixes.{both_begin}
use Rattle.append_laws.proofs.Fronts.{own_splits, placed}

-- what a transaction left begins the list that the whole order makes
left_begins : (h : History) (ts : List ℕ) (t k : ℕ) (xs : List ℕ) (before : List Operation) → Explains ts h → (r : HasRead h t k xs before)
    → IsPrefixOf (left h t k xs before r) (flat_map (own h k) ts)
left_begins h ts t k xs before ex r =
    let p = placed h ts t k xs before ex r in
    let early = flat_map (own h k) p.front in
    let late = flat_map (own h k) p.back in (
      late,
      ap (flat_map (own h k)) p.splits ∙
          (flat_map-append (own h k) p.front (t ∷ p.back) ∙
          (ap (λ ys. early ++ (ys ++ late)) (own_splits h t k xs before r) ∙
          (ap (λ ys. early ++ ys) (append_assoc (appended k before) (appended k r.rest) late) ∙
          (sym (append_assoc early (appended k before) (appended k r.rest ++ late)) ∙
          (ap (λ ys. ys ++ (appended k r.rest ++ late)) p.shows ∙
          sym (append_assoc xs (appended k r.rest) late)))))),
    )

pub fork_refutes : (h : History) (t u k : ℕ) (xs ys : List ℕ) (before earlier : List Operation)
    → (r : HasRead h t k xs before) (s : HasRead h u k ys earlier)
    → (IsPrefixOf (left h t k xs before r) (left h u k ys earlier s) → ⊥)
    → (IsPrefixOf (left h u k ys earlier s) (left h t k xs before r) → ⊥) → HasNoOrder h
fork_refutes h t u k xs ys before earlier r s m n ts ex =
    elim (both_begin (left h t k xs before r) (left h u k ys earlier s) (flat_map (own h k) ts)
    (left_begins h ts t k xs before ex r) (left_begins h ts u k ys earlier ex s)) [
      | inl p ↦ m p
      | inr p ↦ n p
    ]
