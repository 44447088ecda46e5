-- The tracker may be told of a read or a commit before its answer is known.
use Rattle.std.proofs.Common.{List, Some, subst, take, true, ℕ, ◌∷◌, ◌≡◌, Bool}
use Rattle.adya_keys.specs.Meaning.Keys.{key_le}
use Rattle.std.proofs.lemmas.Option.{none-some, same_Some}
use Rattle.ssi_conflict.specs.Clauses.Allowed.{AreAllowed}
use Rattle.ssi_snapshot.specs.Meaning.Reached.{reached}
use Rattle.ssi_store.specs.Meaning.Acts.{Act, Gets, Scans, is_open}
use Rattle.ssi_store.specs.Meaning.Courses.{Command, Command as Do}
use Rattle.ssi_store.specs.Laws.{judged}
use Rattle.ssi_store.specs.Meaning.Replies.{rows}
use Rattle.ssi_store.specs.Meaning.Tracked.{tracked}
use Rattle.ssi_store.proofs.ReachedKeys.{reached_upward}
use Rattle.ssi_store.proofs.SoundLogs.{Sound}
use Rattle.ssi_store.proofs.TrackedCalls.{may_commit, tracked_allowed}

-- the command has no range that runs downward
abbrev pub is_upward : Command → Bool
is_upward (Do.Scan s low high) = key_le low high
is_upward (Do.ScanFirst s low high n) = key_le low high
is_upward command = true

module _ (t : ℕ) (log : List Act) (sound : Sound log) (live : is_open t log ≡ true) where
  allowed_after : (m : Command) (act : Act) → judged t log m ≡ Some act → is_upward m ≡ true
      → AreAllowed (tracked (act ∷ log))
  allowed_after (Do.Begin s) act e up = absurd (none-some act e)
  allowed_after (Do.Put s k v) act e up = absurd (none-some act e)
  allowed_after (Do.Del s k) act e up = absurd (none-some act e)
  allowed_after (Do.Abort s) act e up = absurd (none-some act e)
  allowed_after Do.Collect act e up = absurd (none-some act e)
  allowed_after Do.Stat act e up = absurd (none-some act e)
  allowed_after (Do.Get s k) act e up =
      subst (λ x. AreAllowed (tracked (x ∷ log))) (same_Some _ act e) (tracked_allowed (Gets t k ∷ log) (live, sound))
  allowed_after (Do.Scan s low high) act e up =
      subst (λ x. AreAllowed (tracked (x ∷ log))) (same_Some _ act e)
      (tracked_allowed (Scans t low high ∷ log) ((live, up), sound))
  allowed_after (Do.ScanFirst s low high n) act e up =
      subst (λ x. AreAllowed (tracked (x ∷ log))) (same_Some _ act e)
      (tracked_allowed (Scans t low (reached high n (take n (rows t low high log))) ∷ log)
      ((live, reached_upward t low high n log up), sound))
  allowed_after (Do.Commit s) act e up =
      subst (λ x. AreAllowed (tracked (x ∷ log))) (same_Some _ act e) (may_commit t log live, tracked_allowed log sound)
