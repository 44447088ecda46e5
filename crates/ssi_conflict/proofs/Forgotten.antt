-- A transaction that is kept after a call was kept before it.
use Rattle.std.proofs.Common.{List, true, ℕ, ◌∷◌, ◌≡◌}
use Rattle.std.proofs.lemmas.Bool.{both_ways, eq-eqb}
use Rattle.ssi_conflict.specs.Meaning.Calls.{Aborts, Begins, Call, Commits, Reads, has_begun}
use Rattle.ssi_conflict.specs.Clauses.Allowed.{AreAllowed}
use Rattle.ssi_conflict.specs.Meaning.Kept.{is_kept}
use Rattle.ssi_conflict.proofs.AfterAbort.{kept_before_abort}
use Rattle.ssi_conflict.proofs.AfterBegin.{kept_before_begin}
use Rattle.ssi_conflict.proofs.AfterCommit.{kept_before_commit}
use Rattle.ssi_conflict.proofs.PairsByCall.{older}

pub was_kept : (c : Call) (calls : List Call) → AreAllowed (c ∷ calls) → (t : ℕ) → has_begun t calls ≡ true
    → is_kept t (c ∷ calls) ≡ true → is_kept t calls ≡ true
was_kept (Begins u s) calls ok t b h =
    kept_before_begin u s calls ok t (λ e. both_ways _ (older u s calls ok t b) (eq-eqb u t e)) h
was_kept (Reads u low high) calls ok t b h = h
was_kept (Commits u n ks) calls ok t b h = kept_before_commit u n ks calls ok t h
was_kept (Aborts u) calls ok t b h = (kept_before_abort u calls ok t h).0
