-- The pairs that calls add are those that one finds by looking back: a pair is there after a call exactly if it was
-- there before, or the call adds it.
use Rattle.std.proofs.Common.{List, [], inl, inr, true, ℕ, ◌∷◌, ◌≡◌, ◌⊎◌}
use Rattle.std.proofs.lemmas.Bool.{or_cases, or_left, or_right}
use Rattle.ssi_conflict.specs.Computing.Steps.{adds, is_pair}
use Rattle.ssi_conflict.specs.Meaning.Calls.{Aborts, Begins, Call, Commits, Reads}
use Rattle.ssi_conflict.specs.Clauses.Allowed.{AreAllowed}
use Rattle.ssi_conflict.specs.Clauses.Pairs.{IsPair}
use Rattle.ssi_conflict.proofs.PairsByCall.{pair_after_abort, pair_after_begin, pair_after_commit, pair_after_read, pair_before_abort, pair_before_begin, pair_before_commit, pair_before_read, pair_of_commit, pair_of_read}

pub pair_after : (c : Call) (calls : List Call) → AreAllowed (c ∷ calls) → (r u : ℕ) → IsPair r u calls
    → IsPair r u (c ∷ calls)
pair_after (Begins t s) calls ok r u p = pair_after_begin t s calls ok r u p
pair_after (Reads t low high) calls ok r u p = pair_after_read t low high calls ok r u p
pair_after (Commits t n ks) calls ok r u p = pair_after_commit t n ks calls ok r u p
pair_after (Aborts t) calls ok r u p = pair_after_abort t calls r u p

pair_of : (c : Call) (calls : List Call) → AreAllowed (c ∷ calls) → (r u : ℕ) → adds c calls r u ≡ true
    → IsPair r u (c ∷ calls)
pair_of (Begins t s) calls ok r u h = absurd (cc (h))
pair_of (Reads t low high) calls ok r u h = pair_of_read t low high calls ok r u h
pair_of (Commits t n ks) calls ok r u h = pair_of_commit t n ks calls ok r u h
pair_of (Aborts t) calls ok r u h = absurd (cc (h))

pub pair_before : (c : Call) (calls : List Call) → AreAllowed (c ∷ calls) → (r u : ℕ) → IsPair r u (c ∷ calls)
    → (adds c calls r u ≡ true) ⊎ IsPair r u calls
pair_before (Begins t s) calls ok r u p = inr (pair_before_begin t s calls ok r u p)
pair_before (Reads t low high) calls ok r u p = pair_before_read t low high calls ok r u p
pair_before (Commits t n ks) calls ok r u p = pair_before_commit t n ks calls ok r u p
pair_before (Aborts t) calls ok r u p = inr (pair_before_abort t calls r u p)

pub found_back : (calls : List Call) → AreAllowed calls → (r u : ℕ) → is_pair r u calls ≡ true → IsPair r u calls
found_back [] ok r u e = absurd (cc (e))
found_back (c ∷ calls) ok r u e =
    elim (or_cases (adds c calls r u) (is_pair r u calls) e) [
      | inl new ↦ pair_of c calls ok r u new
      | inr old ↦ pair_after c calls ok r u (found_back calls ok.1 r u old)
    ]

pub found_step : (calls : List Call) → AreAllowed calls → (r u : ℕ) → IsPair r u calls → is_pair r u calls ≡ true
found_step [] ok r u p = p.committed
found_step (c ∷ calls) ok r u p =
    elim (pair_before c calls ok r u p) [
      | inl new ↦ or_left (adds c calls r u) (is_pair r u calls) new
      | inr old ↦ or_right (adds c calls r u) (is_pair r u calls) (found_step calls ok.1 r u old)
    ]
