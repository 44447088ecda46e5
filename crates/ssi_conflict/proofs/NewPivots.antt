-- Which transactions a call can make pivots.
use Rattle.std.proofs.Common.{List, ap, arith, false, inl, inr, is_some, refl, subst, sym, true, ℕ, ◌==◌, ◌∙◌, ◌∷◌, ◌≡◌, ◌⊎◌}
use Rattle.std.proofs.lemmas.Bool.{and_parts, both_ways, cases_Bool, eqb-true}
use Rattle.std.proofs.lemmas.Option.{same_Some}
use Rattle.lemmas.proofs.Options.{none_unless_some}
use Rattle.ssi_conflict.specs.Computing.Steps.{adds}
use Rattle.ssi_conflict.specs.Meaning.Calls.{Aborts, Begins, Call, Commits, Reads, is_committed, stamp_of}
use Rattle.ssi_conflict.specs.Clauses.Allowed.{AreAllowed}
use Rattle.ssi_conflict.specs.Meaning.Kept.{is_kept}
use Rattle.ssi_conflict.specs.Clauses.Pairs.{IsAtMost, IsOrderedPivot, IsPair, IsPivot}
use Rattle.ssi_conflict.proofs.AfterCommit.{by_writer}
use Rattle.ssi_conflict.proofs.AllowedCalls.{open_parts, stamps_below}
use Rattle.ssi_conflict.proofs.PairsByCall.{own_stamp, pair_before_commit, pair_before_read, same_stamp}
use Rattle.ssi_conflict.proofs.PairsKept.{pair_was}

-- who has committed keeps its stamp
stamp_stays : (t : ℕ) (c : Call) (calls : List Call) → AreAllowed (c ∷ calls) → is_committed t calls ≡ true
    → stamp_of t (c ∷ calls) ≡ stamp_of t calls
stamp_stays t (Begins u s) calls ok h = refl
stamp_stays t (Reads u low high) calls ok h = refl
stamp_stays t (Aborts u) calls ok h = refl
stamp_stays t (Commits u n ks) calls ok h = same_stamp u n ks calls ok t (λ e.
    both_ways (is_committed t calls)
    (subst (λ x. is_committed x calls ≡ false) e (open_parts u calls ok.0.opened).uncommitted) h)

pub new_pivot_kept : (c : Call) (calls : List Call) → AreAllowed (c ∷ calls) → (t : ℕ) → IsPivot t (c ∷ calls)
    → (IsPivot t calls → ⊥) → is_kept t calls ≡ true
new_pivot_kept c calls a t p new =
    elim (pair_was c calls a p.from t p.into) [
      | inl into ↦ elim (pair_was c calls a t p.to p.out) [
        | inl out ↦ absurd (new (record
            { committed = into.committed; from = p.from; into = into; to = p.to; out = out }))
        | inr kept ↦ kept.0
      ]
      | inr kept ↦ kept.1
    ]

-- who counted as later than all, or had a stamp at least this one, does so before the call
at_most_before : (n t : ℕ) (c : Call) (calls : List Call) → AreAllowed (c ∷ calls)
    → IsAtMost n (stamp_of t (c ∷ calls)) → IsAtMost n (stamp_of t calls)
at_most_before n t c calls a l =
    elim (cases_Bool (is_committed t calls)) [
      | inl done ↦ subst (IsAtMost n) (stamp_stays t c calls a done) l
      | inr still ↦ subst (IsAtMost n) (sym (none_unless_some (stamp_of t calls) still)) tt
    ]

old_ordered : (c : Call) (calls : List Call) → AreAllowed (c ∷ calls)
    → (t : ℕ) (p : IsOrderedPivot t (c ∷ calls)) → IsPair p.from t calls → IsPair t p.to calls
    → IsOrderedPivot t calls
old_ordered c calls a t p into out = record {
  middle = p.middle;
  committed = sym (stamp_stays t c calls a into.committed) ∙ p.committed;
  from = p.from;
  into = into;
  to = p.to;
  out = out;
  last = p.last;
  to_committed = sym (stamp_stays p.to c calls a out.committed) ∙ p.to_committed;
  before_middle = p.before_middle;
  not_after_first = at_most_before p.last p.from c calls a p.not_after_first;
}

pub new_ordered_kept : (c : Call) (calls : List Call) → AreAllowed (c ∷ calls) → (t : ℕ)
    → IsOrderedPivot t (c ∷ calls) → (IsOrderedPivot t calls → ⊥) → is_kept t calls ≡ true
new_ordered_kept c calls a t p new =
    elim (pair_was c calls a p.from t p.into) [
      | inl into ↦ elim (pair_was c calls a t p.to p.out) [
        | inl out ↦ absurd (new (old_ordered c calls a t p into out))
        | inr kept ↦ kept.0
      ]
      | inr kept ↦ kept.1
    ]

pub commit_makes_own : (t n : ℕ) (ks : List (List ℕ)) (calls : List Call) → AreAllowed (Commits t n ks ∷ calls)
    → (x : ℕ) → IsOrderedPivot x (Commits t n ks ∷ calls) → (IsOrderedPivot x calls → ⊥) → x ≡ t
commit_makes_own t n ks calls ok x p new =
    elim (pair_before_commit t n ks calls ok p.from x p.into) [
      | inl now ↦ sym (by_writer t n ks calls ok p.from x now)
      | inr into ↦ elim (pair_before_commit t n ks calls ok x p.to p.out) [
        -- the stamp of the new commit is above all others
        | inl now ↦ absurd (
            let ends : t ≡ p.to = by_writer t n ks calls ok x p.to now in
            let last : n ≡ p.last = same_Some n p.last (sym (own_stamp t n ks calls ok)
            ∙ (ap (λ y. stamp_of y (Commits t n ks ∷ calls)) ends ∙ p.to_committed)) in
            let middle = sym (stamp_stays x (Commits t n ks) calls ok into.committed) ∙ p.committed in
            let upto = stamps_below calls ok.1 x p.middle middle in
            let next = ok.0.next in
            let below = p.before_middle in
            omega (arith, last, upto, next, below))
        | inr out ↦ absurd (new (old_ordered (Commits t n ks) calls ok x p into out))
      ]
    ]

-- what a read adds, if it adds a pair
module _ (t : ℕ) (low high : List ℕ) (calls : List Call) (ok : AreAllowed (Reads t low high ∷ calls)) where
  is_reader : (r u : ℕ) → adds (Reads t low high) calls r u ≡ true → t ≡ r
  is_reader r u h = eqb-true t r (and_parts (t == r) _ h).0

  -- a pair into a committed transaction is an old one, or one that the read makes
  read_into : (a p : ℕ) → IsPair a p (Reads t low high ∷ calls)
      → IsPair a p calls ⊎ (adds (Reads t low high) calls t p ≡ true)
  read_into a p pair =
      elim (pair_before_read t low high calls ok a p pair) [
        | inl now ↦ inr (subst (λ x. adds (Reads t low high) calls x p ≡ true) (sym (is_reader a p now)) now)
        | inr old ↦ inl old
      ]

  -- a pair out of a committed transaction is an old one
  read_out : (p b : ℕ) → is_committed p calls ≡ true → IsPair p b (Reads t low high ∷ calls) → IsPair p b calls
  read_out p b done pair =
      elim (pair_before_read t low high calls ok p b pair) [
        | inl now ↦ absurd (both_ways (is_committed p calls)
            (subst (λ x. is_committed x calls ≡ false) (is_reader p b now)
            (open_parts t calls ok.0.opened).uncommitted) done)
        | inr old ↦ old
      ]

  pub read_makes : (p : ℕ) → IsPivot p (Reads t low high ∷ calls) → (IsPivot p calls → ⊥)
      → adds (Reads t low high) calls t p ≡ true
  read_makes p pivot new =
      elim (read_into pivot.from p pivot.into) [
        | inl old ↦ absurd (new (record {
          committed = pivot.committed;
          from = pivot.from;
          into = old;
          to = pivot.to;
          out = read_out p pivot.to pivot.committed pivot.out;
        }))
        | inr now ↦ now
      ]

  pub read_makes_ordered : (p : ℕ) → IsOrderedPivot p (Reads t low high ∷ calls) → (IsOrderedPivot p calls → ⊥)
      → adds (Reads t low high) calls t p ≡ true
  read_makes_ordered p pivot new =
      elim (read_into pivot.from p pivot.into) [
        | inl old ↦ absurd (new (old_ordered (Reads t low high) calls ok p pivot old
            (read_out p pivot.to (ap is_some pivot.committed) pivot.out)))
        | inr now ↦ now
      ]
