-- Both transactions of a pair that a call adds are kept.
use Rattle.std.proofs.Common.{List, inl, inr, subst, sym, true, ℕ, ◌∷◌, ◌≡◌, ◌⊎◌}
use Rattle.lemmas.proofs.Options.{some_value}
use Rattle.ssi_conflict.specs.Computing.Steps.{adds}
use Rattle.ssi_conflict.specs.Meaning.Calls.{Aborts, Begins, Call, Commits, Reads, snapshot_of}
use Rattle.ssi_conflict.specs.Clauses.Allowed.{AreAllowed}
use Rattle.ssi_conflict.specs.Meaning.Kept.{is_kept}
use Rattle.ssi_conflict.specs.Clauses.Pairs.{IsPair}
use Rattle.ssi_conflict.proofs.AfterCommit.{by_writer, reader_is_kept}
use Rattle.ssi_conflict.proofs.AfterRead.{by_reader, met_is_kept}
use Rattle.ssi_conflict.proofs.AllowedCalls.{kept_open, open_parts}
use Rattle.ssi_conflict.proofs.PairsFound.{pair_before}

added_kept : (c : Call) (calls : List Call) → AreAllowed (c ∷ calls) → (r u : ℕ) → adds c calls r u ≡ true
    → (is_kept r calls ≡ true) × (is_kept u calls ≡ true)
added_kept (Begins t s) calls ok r u h = absurd (cc (h))
added_kept (Aborts t) calls ok r u h = absurd (cc (h))
added_kept (Reads t low high) calls ok r u h =
    let seen = some_value (snapshot_of t calls) (open_parts t calls ok.0.opened).is_begun in
    let at : t ≡ r = by_reader t low high calls ok seen.0 seen.1 r u h in (
      subst (λ x. is_kept x calls ≡ true) at (kept_open t calls ok.0.opened),
      met_is_kept t low high calls ok seen.0 seen.1 u
          (subst (λ x. adds (Reads t low high) calls x u ≡ true) (sym at) h),
    )
added_kept (Commits t n ks) calls ok r u h =
    let at : t ≡ u = by_writer t n ks calls ok r u h in (
      reader_is_kept t n ks calls ok r (subst (λ x. adds (Commits t n ks) calls r x ≡ true) (sym at) h),
      subst (λ x. is_kept x calls ≡ true) at (kept_open t calls ok.0.opened),
    )

-- a pair was there before the call, or both of its transactions are kept
pub pair_was : (c : Call) (calls : List Call) → AreAllowed (c ∷ calls) → (r u : ℕ) → IsPair r u (c ∷ calls)
    → IsPair r u calls ⊎ ((is_kept r calls ≡ true) × (is_kept u calls ≡ true))
pair_was c calls ok r u p =
    elim (pair_before c calls ok r u p) [ inl new ↦ inr (added_kept c calls ok r u new) | inr old ↦ inl old ]

pub new_pair_kept : (c : Call) (calls : List Call) → AreAllowed (c ∷ calls) → (r u : ℕ) → IsPair r u (c ∷ calls)
    → (IsPair r u calls → ⊥) → (is_kept r calls ≡ true) × (is_kept u calls ≡ true)
new_pair_kept c calls ok r u p new = elim (pair_was c calls ok r u p) [ inl old ↦ absurd (new old) | inr kept ↦ kept ]
