-- What the calls of a tracker say of aborts.
use Rattle.std.proofs.Common.{List, [], false, inl, inr, refl, ℕ, ◌==◌, ◌∷◌, ◌≡◌}
use Rattle.std.proofs.lemmas.Bool.{cases_Bool, or_parts}
use Rattle.ssi_conflict.specs.Meaning.Calls.{Aborts, Begins, Call, Commits, Reads, is_aborted}
use Rattle.ssi_conflict.specs.Clauses.Pairs.{before_commit}

pub unaborted_before : (r u : ℕ) (calls : List Call) → is_aborted r calls ≡ false
    → is_aborted r (before_commit u calls) ≡ false
unaborted_before r u [] e = refl
unaborted_before r u (Begins t s ∷ calls) e = unaborted_before r u calls e
unaborted_before r u (Reads t low high ∷ calls) e = unaborted_before r u calls e
unaborted_before r u (Aborts t ∷ calls) e = unaborted_before r u calls (or_parts (t == r) (is_aborted r calls) e).1
unaborted_before r u (Commits t n ks ∷ calls) e =
    elim (cases_Bool (t == u)) [ inl same ↦ rw same e | inr other ↦ rw other (unaborted_before r u calls e) ]
