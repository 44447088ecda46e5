-- What the proofs ask of a rule that names pivots, that both rules give it, and how the pivots that they name compare.
use Rattle.std.specs.List.{list_any}
use Rattle.std.proofs.Common.{List, Option, Some, [], false, refl, true, ℕ, ◌&&◌, ◌∷◌, ◌≡◌, ◌≤◌}
use Rattle.std.proofs.lemmas.Bool.{and_from, and_parts, both_ways}
use Rattle.std.proofs.lemmas.Option.{none-some}
use Rattle.lemmas.proofs.Tests.{list_any-source, list_any_when}
use Rattle.adya_values.specs.Computing.Shapes.{numbers_rise}
use Rattle.ssi_conflict.specs.Computing.Steps.{is_earlier, is_no_later, is_ordered_pivot, is_pair, is_pivot, smallest_ordered_pivot, smallest_pivot}
use Rattle.ssi_conflict.specs.Meaning.Calls.{Aborts, Begins, Call, begun, stamp_of}
use Rattle.ssi_conflict.specs.Clauses.Allowed.{AreAllowed}
use Rattle.ssi_conflict.specs.Laws.{AbortsMakeNoPair, BeginsMakeNoPair, OrderedPivotsAreNamed, PivotsAreNamed}
use Rattle.ssi_conflict.specs.Clauses.Pairs.{IsOrderedPivot, IsPivot, IsSmallest}
use Rattle.adya_values.proofs.RisingNumbers.{first_no_later}

-- whatever was called, a pivot of the commit-order rule is one of the two-pair rule
ordered_is_pivot : (calls : List Call) (t : ℕ) → is_ordered_pivot t calls ≡ true → is_pivot t calls ≡ true
ordered_is_pivot calls t e =
    let b = list_any-source (λ b. (is_pair t b calls && is_earlier (stamp_of b calls) (stamp_of t calls)) &&
    list_any (λ a. is_pair a t calls && is_no_later (stamp_of b calls) (stamp_of a calls)) (begun calls))
    (begun calls) e in
    let parts = and_parts (is_pair t b.0 calls && is_earlier (stamp_of b.0 calls) (stamp_of t calls))
    (list_any (λ a. is_pair a t calls && is_no_later (stamp_of b.0 calls) (stamp_of a calls)) (begun calls)) b.2 in
    let a = list_any-source (λ a. is_pair a t calls && is_no_later (stamp_of b.0 calls) (stamp_of a calls))
    (begun calls) parts.1 in
    and_from (list_any (λ x. is_pair x t calls) (begun calls)) (list_any (λ x. is_pair t x calls) (begun calls))
    (list_any_when (λ x. is_pair x t calls) (begun calls) a.0 a.1
    (and_parts (is_pair a.0 t calls) (is_no_later (stamp_of b.0 calls) (stamp_of a.0 calls)) a.2).0)
    (list_any_when (λ x. is_pair t x calls) (begun calls) b.0 b.1
    (and_parts (is_pair t b.0 calls) (is_earlier (stamp_of b.0 calls) (stamp_of t calls)) parts.0).0)

-- what the commit-order rule names, the two-pair rule names too, or one that began earlier
pub ordered_names_earlier : (calls : List Call) (p : ℕ) → smallest_ordered_pivot calls ≡ Some p
    → (q : ℕ) × (smallest_pivot calls ≡ Some q) × (numbers_rise (begun calls) ≡ true → q ≤ p)
ordered_names_earlier calls p e =
    first_no_later (λ t. is_ordered_pivot t calls) (λ t. is_pivot t calls) (ordered_is_pivot calls) (begun calls) p e

-- a rule that names the pivots that stand, and beginning and aborting make none
pub record IsRule (IsStanding : ℕ → List Call → Type 0) (pivot : List Call → Option ℕ) : Type 0 where
  pub names : (calls : List Call) → AreAllowed calls → IsSmallest IsStanding calls (pivot calls)
  pub none_first : (t : ℕ) → IsStanding t [] → ⊥
  pub before_begin : (t s p : ℕ) (calls : List Call) → AreAllowed (Begins t s ∷ calls)
      → IsStanding p (Begins t s ∷ calls) → IsStanding p calls
  pub before_abort : (t p : ℕ) (calls : List Call) → IsStanding p (Aborts t ∷ calls) → IsStanding p calls

module _ (begins : BeginsMakeNoPair) (aborts : AbortsMakeNoPair) where
  pub two_pair_rule : PivotsAreNamed → IsRule IsPivot smallest_pivot
  two_pair_rule named = record {
    names = λ calls a. (named calls a (smallest_pivot calls)).0 refl;
    none_first = λ t p. both_ways false refl p.committed;
    before_begin = λ t s x calls a p. record {
      committed = p.committed;
      from = p.from;
      into = begins t s calls a p.from x p.into;
      to = p.to;
      out = begins t s calls a x p.to p.out;
    };
    before_abort = λ t x calls p. record {
      committed = p.committed;
      from = p.from;
      into = aborts t calls p.from x p.into;
      to = p.to;
      out = aborts t calls x p.to p.out;
    };
  }

  pub commit_order_rule : OrderedPivotsAreNamed → IsRule IsOrderedPivot smallest_ordered_pivot
  commit_order_rule named = record {
    names = λ calls a. (named calls a (smallest_ordered_pivot calls)).0 refl;
    none_first = λ t p. none-some p.middle p.committed;
    before_begin = λ t s x calls a p. record {
      middle = p.middle;
      committed = p.committed;
      from = p.from;
      into = begins t s calls a p.from x p.into;
      to = p.to;
      out = begins t s calls a x p.to p.out;
      last = p.last;
      to_committed = p.to_committed;
      before_middle = p.before_middle;
      not_after_first = p.not_after_first;
    };
    before_abort = λ t x calls p. record {
      middle = p.middle;
      committed = p.committed;
      from = p.from;
      into = aborts t calls p.from x p.into;
      to = p.to;
      out = aborts t calls x p.to p.out;
      last = p.last;
      to_committed = p.to_committed;
      before_middle = p.before_middle;
      not_after_first = p.not_after_first;
    };
  }
