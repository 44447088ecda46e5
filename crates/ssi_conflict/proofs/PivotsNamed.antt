-- Which pivots are named, by both rules.
use Rattle.std.specs.List.{Contains, find, list_any}
use Rattle.std.proofs.Common.{Bool, List, None, Option, Some, ap, arith, is_some, ltb-true, refl, subst, sym, true, ℕ, ◌&&◌, ◌<◌, ◌↔◌, ◌∙◌, ◌≡◌}
use Rattle.std.proofs.lemmas.Bool.{and_from, and_parts, both_ways, le-leb, leb-true, lt-ltb}
use Rattle.std.proofs.lemmas.Option.{same_Some}
use Rattle.lemmas.proofs.Finds.{find-source, find_none}
use Rattle.lemmas.proofs.Tests.{list_any-source}
use Rattle.ssi_conflict.specs.Computing.Steps.{is_earlier, is_no_later, is_ordered_pivot, is_pair, is_pivot, smallest_ordered_pivot, smallest_pivot}
use Rattle.ssi_conflict.specs.Meaning.Calls.{Call, begun, is_committed, stamp_of}
use Rattle.ssi_conflict.specs.Clauses.Allowed.{AreAllowed}
use Rattle.ssi_conflict.specs.Clauses.Pairs.{IsAtMost, IsOrderedPivot, IsPivot, IsSmallest}
use Rattle.ssi_conflict.proofs.AllowedCalls.{any_begun, committed_begun, reader_begun}
use Rattle.ssi_conflict.proofs.Begun.{begun_rise, begun_there}
use Rattle.ssi_conflict.proofs.PairsFound.{found_back, found_step}
use Rattle.adya_values.proofs.RisingNumbers.{find_least}

module _ (calls : List Call) (allowed : AreAllowed calls) where
  pivot_to : (t : ℕ) → IsPivot t calls → is_pivot t calls ≡ true
  pivot_to t p =
      and_from (list_any (λ a. is_pair a t calls) (begun calls)) (list_any (λ b. is_pair t b calls) (begun calls))
      (any_begun (λ a. is_pair a t calls) calls p.from (reader_begun calls allowed p.from p.into.key p.into.met)
      (found_step calls allowed p.from t p.into))
      (any_begun (λ b. is_pair t b calls) calls p.to (committed_begun calls allowed p.to p.out.committed)
      (found_step calls allowed t p.to p.out))

  pivot_from : (t : ℕ) → is_pivot t calls ≡ true → IsPivot t calls
  pivot_from t e =
      let both = and_parts (list_any (λ a. is_pair a t calls) (begun calls))
      (list_any (λ b. is_pair t b calls) (begun calls)) e in
      let a = list_any-source (λ a. is_pair a t calls) (begun calls) both.0 in
      let b = list_any-source (λ b. is_pair t b calls) (begun calls) both.1 in
      let into = found_back calls allowed a.0 t a.2 in
      record {
        committed = into.committed;
        from = a.0;
        into = into;
        to = b.0;
        out = found_back calls allowed t b.0 b.2;
      }

  pivot_begun : (t : ℕ) → is_committed t calls ≡ true → Contains (begun calls) t
  pivot_begun t c = begun_there t calls (committed_begun calls allowed t c)

  -- what is found first in the order of beginning is the smallest
  smallest_found : (Holds : ℕ → List Call → Type 0) (test : ℕ → Bool)
      → ((t : ℕ) → Holds t calls → (test t ≡ true) × (is_committed t calls ≡ true))
      → ((t : ℕ) → test t ≡ true → Holds t calls) → (o : Option ℕ) → find test (begun calls) ≡ o
      → IsSmallest Holds calls o
  smallest_found Holds test to from None e = λ t h.
      both_ways _ (find_none test (begun calls) t e (pivot_begun t (to t h).1)) (to t h).0
  smallest_found Holds test to from (Some p) e =
      let found = find-source test (begun calls) p e in (
        from p found.1,
        λ t h.
            let least = find_least test (begun calls) t (begun_rise calls allowed) (pivot_begun t (to t h).1)
            (to t h).0 in
            let same : least.0 ≡ p = same_Some least.0 p (sym least.1 ∙ e) in
            let le = least.2 in
            omega (arith, same, le),
      )

  pub pivots_named : IsSmallest IsPivot calls (smallest_pivot calls)
  pivots_named = smallest_found IsPivot (λ t. is_pivot t calls) (λ t p. (pivot_to t p, p.committed)) pivot_from
      (smallest_pivot calls) refl

  earlier_from : (o p : Option ℕ) → is_earlier o p ≡ true → (n : ℕ) × (m : ℕ) × (o ≡ Some n) × (p ≡ Some m) × (n < m)
  earlier_from None p e = absurd (cc (e))
  earlier_from (Some n) None e = absurd (cc (e))
  earlier_from (Some n) (Some m) e = (n, m, refl, refl, ltb-true n m e)

  at_most_from : (n : ℕ) (o : Option ℕ) → is_no_later (Some n) o ≡ true → IsAtMost n o
  at_most_from n None e = tt
  at_most_from n (Some a) e = leb-true n a e

  at_most_to : (n : ℕ) (o : Option ℕ) → IsAtMost n o → is_no_later (Some n) o ≡ true
  at_most_to n None e = refl
  at_most_to n (Some a) e = le-leb n a e

  ordered_from : (t : ℕ) → is_ordered_pivot t calls ≡ true → IsOrderedPivot t calls
  ordered_from t e =
      let b = list_any-source (λ b. (is_pair t b calls && is_earlier (stamp_of b calls) (stamp_of t calls)) &&
      list_any (λ a. is_pair a t calls && is_no_later (stamp_of b calls) (stamp_of a calls)) (begun calls))
      (begun calls) e in
      let parts = and_parts (is_pair t b.0 calls && is_earlier (stamp_of b.0 calls) (stamp_of t calls))
      (list_any (λ a. is_pair a t calls && is_no_later (stamp_of b.0 calls) (stamp_of a calls)) (begun calls)) b.2 in
      let two = and_parts (is_pair t b.0 calls) (is_earlier (stamp_of b.0 calls) (stamp_of t calls)) parts.0 in
      let a = list_any-source (λ a. is_pair a t calls && is_no_later (stamp_of b.0 calls) (stamp_of a calls))
      (begun calls) parts.1 in
      let last = and_parts (is_pair a.0 t calls) (is_no_later (stamp_of b.0 calls) (stamp_of a.0 calls)) a.2 in
      let stamps = earlier_from (stamp_of b.0 calls) (stamp_of t calls) two.1 in
      record {
        middle = stamps.1;
        committed = stamps.3;
        from = a.0;
        into = found_back calls allowed a.0 t last.0;
        to = b.0;
        out = found_back calls allowed t b.0 two.0;
        last = stamps.0;
        to_committed = stamps.2;
        before_middle = stamps.4;
        not_after_first = at_most_from stamps.0 (stamp_of a.0 calls)
            (ap (λ o. is_no_later o (stamp_of a.0 calls)) (sym stamps.2) ∙ last.1);
      }

  ordered_to : (t : ℕ) → IsOrderedPivot t calls → is_ordered_pivot t calls ≡ true
  ordered_to t p =
      any_begun (λ b. (is_pair t b calls && is_earlier (stamp_of b calls) (stamp_of t calls)) && list_any
      (λ a. is_pair a t calls && is_no_later (stamp_of b calls) (stamp_of a calls)) (begun calls)) calls p.to
      (committed_begun calls allowed p.to p.out.committed)
      (and_from _ _
      (and_from (is_pair t p.to calls) _ (found_step calls allowed t p.to p.out)
      (ap (λ o. is_earlier o (stamp_of t calls)) p.to_committed
      ∙ (ap (λ o. is_earlier (Some p.last) o) p.committed ∙ lt-ltb p.last p.middle p.before_middle)))
      (any_begun (λ a. is_pair a t calls && is_no_later (stamp_of p.to calls) (stamp_of a calls)) calls p.from
      (reader_begun calls allowed p.from p.into.key p.into.met)
      (and_from (is_pair p.from t calls) _ (found_step calls allowed p.from t p.into)
      (ap (λ o. is_no_later o (stamp_of p.from calls)) p.to_committed
      ∙ at_most_to p.last (stamp_of p.from calls) p.not_after_first))))

  pub ordered_named : IsSmallest IsOrderedPivot calls (smallest_ordered_pivot calls)
  ordered_named = smallest_found IsOrderedPivot (λ t. is_ordered_pivot t calls)
      (λ t p. (ordered_to t p, ap is_some p.committed)) ordered_from (smallest_ordered_pivot calls) refl

pub ordered_is_pivot : (calls : List Call) (t : ℕ) → IsOrderedPivot t calls → IsPivot t calls
ordered_is_pivot calls t p = record
    { committed = ap is_some p.committed; from = p.from; into = p.into; to = p.to; out = p.out }

-- two smallest ones are the same
smallest_is_one : (Holds : ℕ → List Call → Type 0) (calls : List Call) (o p : Option ℕ) → IsSmallest Holds calls o
    → IsSmallest Holds calls p → o ≡ p
smallest_is_one Holds calls None None a b = refl
smallest_is_one Holds calls None (Some q) a b = absurd (a q b.0)
smallest_is_one Holds calls (Some q) None a b = absurd (b q a.0)
smallest_is_one Holds calls (Some q) (Some r) a b =
    let below = a.1 r b.0 in
    let above = b.1 q a.0 in
    let same : q ≡ r = omega (arith, below, above) in
    ap Some same

pub named_exactly : (Holds : ℕ → List Call → Type 0) (calls : List Call) (o named : Option ℕ)
    → IsSmallest Holds calls o
    → (o ≡ named) ↔ IsSmallest Holds calls named
named_exactly Holds calls o named least =
    (λ e. subst (IsSmallest Holds calls) e least, λ other. smallest_is_one Holds calls o named least other)
